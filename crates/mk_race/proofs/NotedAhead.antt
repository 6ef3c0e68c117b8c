-- The jobs of a build whose listing and footprints were read ahead, with its footprints that lie unused.
use Rattle.std.proofs.Common.{◌≡◌, ◌∙◌, ℕ, Bool, IfOk, List, [], Ok, Err, Option, Result, ap, refl, subst, sym}
use Rattle.mk_name.specs.Gives.{Answers, HaltsAmong}
use Rattle.mk_name.specs.Names.{Name}
use Rattle.mk_name.specs.Reported.{Reported}
use Rattle.mk_name.specs.declared.fault.Halt.{Halt}
use Rattle.mk_name.specs.declared.fault.Halt.TheVariants as halts
use Rattle.mk_text.specs.Spelling.{root_of}
use Rattle.mk_jobs.specs.Jobs.{Jobs}
use Rattle.mk_foot.specs.Footprints.{AreFootprintsRead, Footprints}
use Rattle.mk_read.specs.declared.input.Build.{Build}
use Rattle.mk_race.specs.Parts.{ForAllRead, IsListedFrom, IsPlannedWith}
use Rattle.mk_race.specs.Stages.{IsPlanned, IsPrepared, Texts, Then, texts_with, with_jobs}
use Rattle.mk_race.specs.Unused.{AreNotedOf, AreNotedOn, IsNoted, IsNotedBy, IsNotedWith, WereRead}
use Rattle.mk_race.specs.declared.planning.Planned.{Planned}
use Rattle.mk_race.specs.declared.unused.Noted.{Noted}
use Rattle.mk_race.specs.declared.unused.Unused.{Unused}
use Rattle.mk_race.proofs.Ahead.{planned_from, planned_there}
use Rattle.mk_race.proofs.Noting.{prepared_by}

module _ (texts : Texts) (lines : List ℕ) (planned : Planned) (answer : Result Noted Reported) where
  -- what is said of footprints that were read ahead is said of the text that they were read from
  found_there : (read : Result Footprints Reported) (found : Result (Jobs × Option Unused) Reported)
      → IsPlanned texts (Ok planned) → AreFootprintsRead planned.root lines read → Then read (AreNotedOf planned.book planned.plan) found
      → Then found (λ f a. a ≡ Ok (record { prepared = with_jobs planned f.0; unused = f.1 })) answer → IsNoted texts lines answer
  found_there (Ok read) (Ok found) is r on so =
      subst (λ (a : Result Noted Reported). IsNoted texts lines a) (sym so) ((Ok planned, is, (Ok found.0, (Ok read, r, on.0), refl)), (read, r, on.1))
  found_there (Ok read) (Err reported) is r on so =
      subst (λ (a : Result Noted Reported). IsNoted texts lines a) (sym so) (Ok planned, is, (Err reported, (Ok read, r, on), refl))
  found_there (Err fault) found is r on so =
      let ends : answer ≡ Err fault =
      subst (λ (f : Result (Jobs × Option Unused) Reported). Then f (λ f a. a ≡ Ok (record { prepared = with_jobs planned f.0; unused = f.1 })) answer) on so in
      subst (λ (a : Result Noted Reported). IsNoted texts lines a) (sym ends) (Ok planned, is, (Err fault, (Err fault, r, refl), refl))

module _ (texts : Texts) (lines : List ℕ) (listed : Result (List Name) Reported) (read : Result Footprints Reported)
    (from : IsListedFrom texts listed) (found : (root : List ℕ) → root_of texts.root ≡ Ok root → AreFootprintsRead root lines read) where
  -- so a build of what was read ahead is a build of the texts
  noted_there : (answer : Result Noted Reported) → IsNotedWith texts listed read answer → IsNoted texts lines answer
  noted_there answer (Ok planned, is, more) =
      found_there texts lines planned answer read more.0 (planned_there texts listed from (Ok planned) is)
      (found planned.root (planned_from texts listed planned is).0) more.1 more.2
  noted_there answer (Err reported, is, so) =
      subst (λ (a : Result Noted Reported). IsNoted texts lines a) (sym so) (Err reported, planned_there texts listed from (Err reported) is, refl)

  answers_noted : (result : Result Noted Halt) → Answers result (IsNotedWith texts listed read) → Answers result (IsNoted texts lines)
  answers_noted (Ok noted) is = noted_there (Ok noted) is
  answers_noted (Err halts.Memory) is = tt
  answers_noted (Err (halts.Fault reported)) is = noted_there (Err reported) is

-- so it is of all that a build was read from
pub build_noted : (build : Build) (result : Result Noted Halt) → Answers result (IsNotedWith (texts_with build.input []) build.listing build.footprints)
    → ForAllRead build (λ texts lines. Answers result (IsNoted texts lines))
build_noted build result is texts lines from =
    let there : Answers result (IsNotedWith (texts_with build.input texts.listing) build.listing build.footprints) = is in
    answers_noted texts lines build.listing build.footprints from.listing from.footprints result
    (subst (λ (t : Texts). Answers result (IsNotedWith t build.listing build.footprints)) (sym from.texts_are) there)

-- the jobs of what was noted are those of the build
pub build_prepared : (build : Build) (strict : Bool) (result : Result Noted Halt)
    → ForAllRead build (λ texts lines. Answers result (IsNotedBy strict texts lines))
    → IfOk result (λ noted. ForAllRead build (λ texts lines. IsPrepared texts lines (Ok noted.prepared)))
build_prepared build strict (Ok noted) is = λ texts lines from. prepared_by texts lines strict (Ok noted) (is texts lines from)
build_prepared build strict (Err halt) is = tt

-- and a halt of it is one of the build
pub halts_prepared : (texts : Texts) (lines : List ℕ) (halt : Halt) → HaltsAmong halt (IsNoted texts lines) → HaltsAmong halt (IsPrepared texts lines)
halts_prepared texts lines halts.Memory is = tt
halts_prepared texts lines (halts.Fault reported) is = is

-- a halt of the plan is one of the whole
pub not_planned : (texts : Texts) (listed : Result (List Name) Reported) (read : Result Footprints Reported) (halt : Halt)
    → HaltsAmong halt (IsPlannedWith texts listed) → HaltsAmong halt (IsNotedWith texts listed read)
not_planned texts listed read halts.Memory h = tt
not_planned texts listed read (halts.Fault reported) h = (Err reported, h, refl)

-- what is noted behind a plan is noted of the whole
pub noted_behind : (texts : Texts) (listed : Result (List Name) Reported) (read : Result Footprints Reported) (planned : Planned) (result : Result Noted Halt)
    → IsPlannedWith texts listed (Ok planned) → Answers result (AreNotedOn planned read) → Answers result (IsNotedWith texts listed read)
noted_behind texts listed read planned (Ok noted) is on = (Ok planned, is, on)
noted_behind texts listed read planned (Err halts.Memory) is on = tt
noted_behind texts listed read planned (Err (halts.Fault reported)) is on = (Ok planned, is, on)

-- a halt of the jobs is one of what is noted of them
pub not_found : (planned : Planned) (read : Result Footprints Reported) (halt : Halt)
    → HaltsAmong halt (Then read (AreNotedOf planned.book planned.plan)) → HaltsAmong halt (AreNotedOn planned read)
not_found planned read halts.Memory h = tt
not_found planned read (halts.Fault reported) h = (Err reported, h, refl)

-- what was read of a build whose jobs are noted: its listing, and footprints
were_read : (texts : Texts) (listed : Result (List Name) Reported) (read : Result Footprints Reported) (noted : Noted)
    → IsNotedWith texts listed read (Ok noted) → WereRead listed read noted.prepared
were_read texts listed (Ok found) noted (Ok planned, is, (Ok jobs, on, so)) =
    ((planned_from texts listed planned is).1 ∙ ap (λ (n : Noted). Ok n.prepared.listing) (sym (same so)), (found, refl))
  where
    same : {x y : Noted} → ◌≡◌ {A = Result Noted Reported} (Ok x) (Ok y) → x ≡ y
    same e = cc
were_read texts listed (Err fault) noted (Ok planned, is, (Ok jobs, on, so)) = absurd (cc on)
were_read texts listed read noted (Ok planned, is, (Err reported, on, so)) = absurd (cc so)
were_read texts listed read noted (Err reported, is, so) = absurd (cc so)

pub noted_were_read : (texts : Texts) (listed : Result (List Name) Reported) (read : Result Footprints Reported) (result : Result Noted Halt)
    → Answers result (IsNotedWith texts listed read) → IfOk result (λ noted. WereRead listed read noted.prepared)
noted_were_read texts listed read (Ok noted) is = were_read texts listed read noted is
noted_were_read texts listed read (Err halt) is = tt
