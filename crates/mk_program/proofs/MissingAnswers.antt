-- Lemmas on the answers to requests for all that is missing.
use Rattle.std.proofs.Common.{◌≡◌, ◌≢◌, ℕ, List, Ok, Result, subst}
use Rattle.mk_name.specs.Gives.{HaltsAmong}
use Rattle.mk_name.specs.Shown.{refused_text}
use Rattle.mk_name.specs.Reported.{Reported}
use Rattle.mk_name.specs.declared.fault.Halt.{Halt}
use Rattle.mk_name.specs.declared.fault.Halt.TheVariants.{Fault}
use Rattle.mk_race.specs.Missing.{IsEmpty}
use Rattle.mk_race.specs.declared.missing.MissingList.{MissingList}
use Rattle.mk_program.specs.Answers.{MissingEnds, SaysMissing, listed_text}
use Rattle.mk_program.specs.declared.statuses.Status.{Status}
use Rattle.mk_program.specs.declared.statuses.Status.TheVariants.{Done, No, Failed, Refused}

-- what was listed ends as done or as no
pub missing_not_failed : (listed : MissingList) (status : Status) → MissingEnds listed status → status ≢ Failed
missing_not_failed listed status ends failed = subst (λ (s : Status). MissingEnds listed s) failed ends

module _ (Is : Result MissingList Reported → Type 0) (Headline : Type 0) where
  -- the report of the fault of a build or of tasks is their answer
  pub unlisted_is : (halt : Halt) (fault : Reported) (status : Status) (text : List ℕ)
      → HaltsAmong halt Is → halt ≡ Fault fault → status ≡ Refused → text ≡ refused_text fault → SaysMissing Is Headline status text
  unlisted_is halt fault status text given is ends reported = rw ends (fault, subst (λ (h : Halt). HaltsAmong h Is) is given, reported)

  -- the report of what was listed is their answer
  pub listed_is : (listed : MissingList) (status : Status) (text : List ℕ) → Is (Ok listed) → (IsEmpty listed → Headline) → MissingEnds listed status
      → text ≡ listed_text listed → SaysMissing Is Headline status text
  listed_is listed Done text is clean ends report = (record { listed = listed; is = is; ends = ends; report = report }, clean ends)
  listed_is listed No text is clean ends report = record { listed = listed; is = is; ends = ends; report = report }
  listed_is listed Refused text is clean ends report = absurd ends
  listed_is listed Failed text is clean ends report = absurd ends
