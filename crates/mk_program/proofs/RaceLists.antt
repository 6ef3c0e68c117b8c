-- Lemmas on the answers to requests for all races.
use Rattle.std.proofs.Common.{◌≡◌, ◌≢◌, ◌∙◌, ◌⊎◌, ◌==◌, inl, inr, ℕ, true, false, List, [], ◌∷◌, Result, Ok, length, ap, refl, subst, sym}
use Rattle.std.proofs.lemmas.Bool.{eqb-true, false≢true}
use Rattle.std.proofs.lemmas.List.{nil_from_length}
use Rattle.mk_name.specs.Gives.{HaltsAmong}
use Rattle.mk_name.specs.Shown.{refused_text}
use Rattle.mk_name.specs.Reported.{Reported}
use Rattle.mk_name.specs.declared.fault.Halt.{Halt}
use Rattle.mk_name.specs.declared.fault.Halt.TheVariants.{Fault}
use Rattle.mk_race.specs.declared.listing.RaceList.{RaceList}
use Rattle.mk_report.specs.RacesText.{IsRacesText}
use Rattle.mk_program.specs.Answers.{SaysList, races_status}
use Rattle.mk_program.specs.declared.statuses.Status.{Status}
use Rattle.mk_program.specs.declared.statuses.Status.TheVariants.{Done, No, Failed, Refused}

-- the report of races ends as done where there is none, and else as no
races_end : (races : List (ℕ × ℕ)) → ((races ≡ []) × (races_status races ≡ Done)) ⊎ (races_status races ≡ No)
races_end [] = inl (refl, refl)
races_end (race ∷ races) = inr refl

pub races_not_failed : (races : List (ℕ × ℕ)) (status : Status) → status ≡ races_status races → status ≢ Failed
races_not_failed races status ends failed = elim (races_end races) [
  | inl done ↦ let e : ◌≡◌ {A = Status} Done Failed = sym done.1 ∙ sym ends ∙ failed in cc
  | inr some ↦ let e : ◌≡◌ {A = Status} No Failed = sym some ∙ sym ends ∙ failed in cc
]

-- the report of the fault of a build or of tasks is their answer
pub unlisted_is : (Is : Result RaceList Reported → Type 0) (Headline : Type 0) (halt : Halt) (fault : Reported) (status : Status) (text : List ℕ)
    → HaltsAmong halt Is → halt ≡ Fault fault → status ≡ Refused → text ≡ refused_text fault → SaysList Is Headline status text
unlisted_is Is Headline halt fault status text given is ends reported = rw ends (fault, subst (λ (h : Halt). HaltsAmong h Is) is given, reported)

-- the report of their races is their answer
pub listed_is : (Is : Result RaceList Reported → Type 0) (Headline : Type 0) (listed : RaceList) (status : Status) (text : List ℕ)
    → Is (Ok listed) → (listed.found.races.items ≡ [] → Headline) → status ≡ races_status listed.found.races.items
    → IsRacesText listed.jobs listed.found.pairs listed.found.races.items text → SaysList Is Headline status text
listed_is Is Headline listed status text is shows ends reported = elim (races_end listed.found.races.items) [
  | inl done ↦ subst (λ (s : Status). SaysList Is Headline s text) (sym (ends ∙ done.1)) ((listed, is, sym done.1, reported), shows done.0)
  | inr some ↦ subst (λ (s : Status). SaysList Is Headline s text) (sym (ends ∙ some)) (listed, is, sym some, reported)
]

-- so is what is said of more, where that has what it has
pub list_more : (Is Other : Result RaceList Reported → Type 0) (Headline Claim : Type 0) → ((answer : Result RaceList Reported) → Is answer → Other answer) → (Headline → Claim)
    → (status : Status) (text : List ℕ) → SaysList Is Headline status text → SaysList Other Claim status text
list_more Is Other Headline Claim more claims Done text said = ((said.0.0, more _ said.0.1, said.0.2, said.0.3), claims said.1)
list_more Is Other Headline Claim more claims No text said = (said.0, more _ said.1, said.2, said.3)
list_more Is Other Headline Claim more claims Refused text said = (said.0, more _ said.1, said.2)
list_more Is Other Headline Claim more claims Failed text said = said

-- without a race it ends as done, and else as no
pub races_done : (races : List (ℕ × ℕ)) → (length races == 0) ≡ true → Done ≡ races_status races
races_done races none = ap races_status (sym (nil_from_length races (eqb-true (length races) 0 none)))

pub races_no : (races : List (ℕ × ℕ)) → (length races == 0) ≡ false → No ≡ races_status races
races_no [] some = absurd (false≢true (sym some))
races_no (race ∷ races) some = refl
