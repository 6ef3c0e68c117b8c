-- Lemmas on answers over texts that are the same.
use Rattle.std.proofs.Common.{◌≡◌, ◌≢◌, ◌∙◌, ℕ, Bool, true, false, List, Result, Ok, Err, map, subst, sym, refl, IsTrue}
use Rattle.std.specs.Borrow.{Bor}
use Rattle.mk_name.specs.Gives.{HaltsAmong}
use Rattle.mk_name.specs.Names.{Name}
use Rattle.mk_name.specs.Shown.{refused_text}
use Rattle.mk_name.specs.Reported.{Reported}
use Rattle.mk_name.specs.declared.fault.Halt.{Halt}
use Rattle.mk_name.specs.declared.fault.Halt.TheVariants.{Fault}
use Rattle.mk_read.specs.declared.input.Input.{Input}
use Rattle.mk_race.specs.Parts.{IsListedFrom}
use Rattle.mk_race.specs.Played.{IsPlayed}
use Rattle.mk_race.specs.Stages.{IsPlanned, Texts, texts_with}
use Rattle.mk_race.specs.declared.planning.Planned.{Planned}
use Rattle.mk_race.specs.declared.replaying.Played.{Played}
use Rattle.mk_race.specs.declared.replaying.Played.TheVariants.{Allowed, NotAllowed}
use Rattle.mk_program.specs.Answers.{IsOrderAnswer, IsReplayAnswer, SaysVerdict, base_of, status_of, texts_for, verdict_status, verdict_text}
use Rattle.mk_files.specs.Builds.{IsListedBelow}
use Rattle.mk_files.specs.Includes.{Pair}
use Rattle.mk_request.specs.declared.inputs.InputFile.{InputFile}
use Rattle.mk_request.specs.declared.inputs.InputFile.TheVariants as inputs
use Rattle.mk_request.specs.declared.requests.BuildArgs.{BuildArgs}
use Rattle.mk_program.specs.PlanText.{plan_text}
use Rattle.mk_program.specs.OutcomeText.{IsOutcomeText}
use Rattle.mk_program.specs.declared.statuses.Status.{Status}
use Rattle.mk_program.specs.declared.statuses.Status.TheVariants.{Done, Failed, No, Refused}

-- the bytes of words, and of pairs of texts
abbrev pub words : List (Bor (List ℕ)) → List (List ℕ)
words = map (λ (text : Bor (List ℕ)). text.now)

abbrev pub pairs : List (Bor (List ℕ) × Bor (List ℕ)) → List (List ℕ × List ℕ)
pairs = map (λ (pair : Bor (List ℕ) × Bor (List ℕ)). (pair.0.now, pair.1.now))

-- a listing that was read below the root was read from these texts
pub listed_from : (args : BuildArgs) (includes : List Pair) (text : InputFile → List ℕ) (listing : Result (List Name) Reported)
    → IsListedBelow args.root.now text listing → IsListedFrom (texts_for args includes text) listing
listed_from args includes text listing below root good = below root good

-- texts of the same parts are the same
pub parts_are : (root root' : List ℕ) (operands operands' : List (List ℕ)) (base base' makefile makefile' : List ℕ) (includes includes' : List Pair) (listing : List ℕ)
    → root' ≡ root → operands' ≡ operands → base' ≡ base → makefile' ≡ makefile → includes' ≡ includes
    → ◌≡◌ {A = Texts} (record { root = root; operands = operands; base = base; makefile = makefile; includes = includes; listing = listing })
    (record { root = root'; operands = operands'; base = base'; makefile = makefile'; includes = includes'; listing = listing })
parts_are root root' operands operands' base base' makefile makefile' includes includes' listing r o b m i = cc

-- the texts of a build are those of its input, with the listing
pub texts_are : (input : Input) (args : BuildArgs) (includes : List Pair) (text : InputFile → List ℕ)
    → input.root.now ≡ args.root.now → words input.operands.now ≡ words args.operands.items → input.base.now ≡ base_of args (text inputs.Base)
    → input.makefile.now ≡ text inputs.Makefile → pairs input.includes.now ≡ includes
    → texts_for args includes text ≡ texts_with input (text inputs.Listing)
texts_are input args includes text = parts_are _ _ _ _ _ _ _ _ _ _ (text inputs.Listing)

-- the report of the fault of a replay is its answer
pub refused_is : (texts : Texts) (footprints log : List ℕ) (limit limit' : ℕ) (tie : Bool) (halt : Halt) (fault : Reported) (status : Status) (text : List ℕ)
    → HaltsAmong halt (IsPlayed texts footprints log limit' tie) → halt ≡ Fault fault → limit' ≡ limit → status ≡ Refused → text ≡ refused_text fault
    → IsReplayAnswer texts footprints log limit tie status text
refused_is texts footprints log limit limit' tie halt fault status text played is same ends reported =
    let at : HaltsAmong (Fault fault) (IsPlayed texts footprints log limit' tie) = subst (λ (h : Halt). HaltsAmong h (IsPlayed texts footprints log limit' tie)) is played in
    rw ends (fault, subst (λ (n : ℕ). IsPlayed texts footprints log n tie (Err fault)) same at, reported)

-- what is reported of a log that was played is its answer
pub outcome_is : (texts : Texts) (footprints log : List ℕ) (limit limit' : ℕ) (tie : Bool) (played : Played) (status : Status) (text : List ℕ)
    → IsPlayed texts footprints log limit' tie (Ok played) → limit' ≡ limit → status ≡ status_of played → IsOutcomeText played text
    → IsReplayAnswer texts footprints log limit tie status text
outcome_is texts footprints log limit limit' tie (Allowed replayed) status text played same ends reported =
    rw ends (replayed, subst (λ (n : ℕ). IsPlayed texts footprints log n tie (Ok (Allowed replayed))) same played, reported)
outcome_is texts footprints log limit limit' tie (NotAllowed place refusal) status text played same ends reported =
    rw ends (place, refusal, subst (λ (n : ℕ). IsPlayed texts footprints log n tie (Ok (NotAllowed place refusal))) same played, reported)

-- the report of the fault of a plan is its answer
pub unplanned_is : (texts : Texts) (halt : Halt) (fault : Reported) (status : Status) (text : List ℕ)
    → HaltsAmong halt (IsPlanned texts) → halt ≡ Fault fault → status ≡ Refused → text ≡ refused_text fault → IsOrderAnswer texts status text
unplanned_is texts halt fault status text planned is ends reported =
    rw ends (fault, subst (λ (h : Halt). HaltsAmong h (IsPlanned texts)) is planned, reported)

-- what is refused has not failed
pub refusal_not_failed : (status : Status) → status ≡ Refused → status ≢ Failed
refusal_not_failed status refused failed = let e : ◌≡◌ {A = Status} Refused Failed = sym refused ∙ failed in cc

-- what is done has not failed
pub not_failed : (status : Status) → status ≡ Done → status ≢ Failed
not_failed status done failed = let e : ◌≡◌ {A = Status} Done Failed = sym done ∙ failed in cc

-- what is reported of a plan is its answer
pub plan_is : (texts : Texts) (planned : Planned) (status : Status) (text : List ℕ)
    → IsPlanned texts (Ok planned) → status ≡ Done → text ≡ plan_text planned.plan → IsOrderAnswer texts status text
plan_is texts planned status text is ends reported = rw ends (planned, is, reported)

-- the report of the fault of a proof is its answer
pub unverified_is : (Is : Result Bool Reported → Type 0) (Shown : Type 0) (halt : Halt) (fault : Reported) (status : Status) (text : List ℕ)
    → HaltsAmong halt Is → halt ≡ Fault fault → status ≡ Refused → text ≡ refused_text fault → SaysVerdict Is Shown status text
unverified_is Is Shown halt fault status text verified is ends reported =
    rw ends (fault, subst (λ (h : Halt). HaltsAmong h Is) is verified, reported)

-- what is reported of a proof that was judged is its answer
pub verdict_is : (Is : Result Bool Reported → Type 0) (Shown : Type 0) (accepted : Bool) (status : Status) (text : List ℕ)
    → Is (Ok accepted) → (IsTrue accepted → Shown) → status ≡ verdict_status accepted → text ≡ verdict_text accepted
    → SaysVerdict Is Shown status text
verdict_is Is Shown true status text verified shows ends reported = rw ends (verified, shows refl, reported)
verdict_is Is Shown false status text verified shows ends reported = rw ends (verified, reported)

-- so is what is said of more, where that has what it has
pub verdict_more : (Is Other : Result Bool Reported → Type 0) (Shown Claim : Type 0) → ((answer : Result Bool Reported) → Is answer → Other answer) → (Shown → Claim)
    → (status : Status) (text : List ℕ) → SaysVerdict Is Shown status text → SaysVerdict Other Claim status text
verdict_more Is Other Shown Claim more claims Done text said = (more _ said.0, claims said.1, said.2)
verdict_more Is Other Shown Claim more claims No text said = (more _ said.0, said.1)
verdict_more Is Other Shown Claim more claims Refused text said = (said.0, more _ said.1, said.2)
verdict_more Is Other Shown Claim more claims Failed text said = said
