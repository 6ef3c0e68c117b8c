-- Lemmas on answers with a note.
use Rattle.std.proofs.Common.{◌≡◌, ◌≢◌, ◌⊎◌, ◌∙◌, inl, inr, ℕ, Bool, List, [], ◌∷◌, Option, Some, Result, Ok, Err, IfOk, ap, subst, sym, refl}
use Rattle.std.proofs.lemmas.Option.{same_Some}
use Rattle.mk_name.specs.Gives.{HaltsAmong}
use Rattle.mk_name.specs.Reported.{Reported}
use Rattle.mk_name.specs.Shown.{refused_text}
use Rattle.mk_name.specs.declared.fault.Halt.{Halt}
use Rattle.mk_name.specs.declared.fault.Halt.TheVariants as halts
use Rattle.mk_foot.specs.Footprints.{AreFootprintsRead, Footprints}
use Rattle.mk_race.specs.Parts.{IsReadFrom}
use Rattle.mk_race.specs.Stages.{Texts, ThenAny}
use Rattle.mk_race.specs.Unused.{IsNotedBy, WereRead}
use Rattle.mk_race.specs.declared.preparing.Prepared.{Prepared}
use Rattle.mk_race.specs.declared.unused.Noted.{Noted}
use Rattle.mk_read.specs.declared.input.Build.{Build}
use Rattle.mk_program.specs.Noting.{SaysNoting, note_of}
use Rattle.mk_program.specs.declared.answers.Answer.{Answer}
use Rattle.mk_program.specs.declared.noting.Reply.{Reply}
use Rattle.mk_program.specs.declared.statuses.Status.{Status}
use Rattle.mk_program.specs.declared.statuses.Status.TheVariants.{Refused}

-- a halt behind a stage is one of both
pub halts_on : {X Y : Type 0} (stage : Result X Reported → Type 0) (next : X → Result Y Reported → Type 0) (x : X) (halt : Halt) → stage (Ok x)
    → HaltsAmong halt (next x) → HaltsAmong halt (ThenAny stage next)
halts_on stage next x halts.Memory is h = tt
halts_on stage next x (halts.Fault reported) is h = (Ok x, is, h)

-- the fault of a build is reported without a note
pub fault_noted : (Says : Status → List ℕ → Type 0) (strict : Bool) (texts : Texts) (footprints : List ℕ) (halt : Halt) (reported : Reported)
    (status : Status) (text note : List ℕ) → HaltsAmong halt (IsNotedBy strict texts footprints) → halt ≡ halts.Fault reported
    → status ≡ Refused → text ≡ refused_text reported → note ≡ [] → SaysNoting strict texts footprints Says status text note
fault_noted Says strict texts footprints halt reported status text note given is ends said none =
    (Err reported, subst (λ (h : Halt). HaltsAmong h (IsNotedBy strict texts footprints)) is given, (ends, said, none))

-- a note is empty, or it is not
pub empty_or : (note : List ℕ) → (note ≡ []) ⊎ (note ≢ [])
empty_or [] = inl refl
empty_or (first ∷ rest) = inr (λ same. let e : first ∷ rest ≡ [] = same in cc)

-- two facts of a result
pub with_note : {X E : Type 0} (result : Result X E) (One Other Both : X → Type 0) → ((x : X) → One x → Other x → Both x)
    → IfOk result One → IfOk result Other → IfOk result Both
with_note (Ok x) One Other Both both one other = both x one other
with_note (Err e) One Other Both both one other = tt

-- an answer of a build that was read, with the note of what was prepared
pub noting_is : {E : Type 0} (Says : Texts → List ℕ → Status → List ℕ → Type 0) (build : Build) (strict : Bool) (noted : Noted) (answer : Answer)
    (result : Result Reply E) → ((texts : Texts) (lines : List ℕ) → IsReadFrom build texts lines → IsNotedBy strict texts lines (Ok noted))
    → ((texts : Texts) (lines : List ℕ) → IsReadFrom build texts lines → Says texts lines answer.status answer.text.items)
    → IfOk result (λ reply. reply.answer ≡ answer) → IfOk result (λ reply. reply.note.items ≡ note_of noted.unused)
    → IfOk result (λ reply. (texts : Texts) (lines : List ℕ) → IsReadFrom build texts lines
    → SaysNoting strict texts lines (Says texts lines) reply.answer.status reply.answer.text.items reply.note.items)
noting_is Says build strict noted answer result is said = with_note result _ _ _ (λ reply same noting texts lines from. (
  Ok noted,
  is texts lines from,
  (subst (λ (a : Answer). Says texts lines a.status a.text.items) (sym same) (said texts lines from), noting),
))

-- what was read of a build that was noted, with a copy of its footprints, was read from the same texts
pub read_again : (texts : Texts) (build : Build) (lines : List ℕ) (prepared : Prepared) (copy : Option Footprints) (again : Footprints)
    → WereRead build.listing build.footprints prepared → IfOk build.footprints (λ found. copy ≡ Some found) → copy ≡ Some again
    → IsReadFrom build texts lines → IsReadFrom (record { input = build.input; listing = Ok prepared.listing; footprints = Ok again }) texts lines
read_again texts build lines prepared copy again (listing, (found, is)) same some from =
    let alike : found ≡ again = same_Some _ _ (sym (subst (λ (r : Result Footprints Reported). IfOk r (λ f. copy ≡ Some f)) is same) ∙ some) in
    record {
      texts_are = from.texts_are;
      listing = λ root rooted. from.listing root rooted ∙ listing;
      footprints = λ root rooted. subst (λ (r : Result Footprints Reported). AreFootprintsRead root lines r) (is ∙ ap (λ (f : Footprints). Ok f) alike)
          (from.footprints root rooted);
    }
