-- What comes of lines behind a makefile.
use Rattle.std.proofs.Common.{◌≡◌, ◌==◌, ℕ, List, [], length, true, IfOk, Ok, Err, Option, Result, arith, inl, refl, subst, sym}
use Rattle.std.proofs.lemmas.Bool.{eqb-true}
use Rattle.std.proofs.lemmas.List.{append-nil, nil_from_length}
use Rattle.std.proofs.lemmas.List.Elements.{Contains-get_or}
use Rattle.mk_name.specs.Gives.{Answers}
use Rattle.mk_name.specs.Reported.{Reported}
use Rattle.mk_name.specs.declared.fault.Halt.{Halt}
use Rattle.mk_jobs.specs.Jobs.{Jobs, IsValid, prerequisites_of}
use Rattle.mk_sched.specs.Schedules.{IsDeterminateFromOneRun}
use Rattle.mk_sched.proofs.Staying.{from_one_run}
use Rattle.mk_decide.specs.Decisions.{AreSafe}
use Rattle.mk_decide.specs.Pairs.{HasFewPairs}
use Rattle.mk_fix.specs.Again.{HaveAll}
use Rattle.mk_fix.specs.Fixes.{IsFix}
use Rattle.mk_fix.proofs.Fixing.{nothing_to_fix}
use Rattle.mk_report.specs.FixText.{IsFixLinesOf, IsFixText}
use Rattle.mk_report.specs.declared.fixes.FixLines.{FixLines}
use Rattle.mk_race.specs.Fixed.{HoldsOfFixed, HoldsOfJobs, IsFixedBy, IsFixing, IsTried, IsUnfixed, refused, tried, with_lines}
use Rattle.mk_race.specs.Stages.{IsPrepared, Texts}
use Rattle.mk_race.specs.declared.fixing.Fixing.{Fixing}
use Rattle.mk_race.specs.declared.fixing.Fixing.TheVariants.{Fixed, NotFixed}
use Rattle.mk_race.specs.declared.fixing.Tried.{Tried}
use Rattle.mk_race.specs.declared.fixing.Tried.TheVariants.{Safe, Unsafe}
use Rattle.mk_race.specs.declared.preparing.Prepared.{Prepared}
use Rattle.mk_race.proofs.Alike.{no_build_shows}

-- what the lines of a copy of the edges come to is what those of the edges come to
pub lines_with : (makefile : List ℕ) (jobs : Jobs) (copy edges : List (ℕ × ℕ)) (given lines : FixLines) → copy ≡ edges → given ≡ lines
    → IsFixLinesOf makefile jobs copy given → IsFixLinesOf makefile jobs edges lines
lines_with makefile jobs copy edges given lines same is h =
    subst (λ (f : FixLines). IsFixLinesOf makefile jobs edges f) is (subst (λ (es : List (ℕ × ℕ)). IsFixLinesOf makefile jobs es given) same h)

module _ (texts : Texts) (footprints lines : List ℕ) (jobs : Jobs) (edges : List (ℕ × ℕ)) (says : IsFixText texts.makefile jobs edges lines) where
  -- lines with which new jobs are safe fix the build
  pub fixed_by : (new : Jobs) → IsFix jobs edges → IsTried (with_lines texts lines) footprints jobs edges (Safe new)
      → IsFixedBy texts footprints jobs lines new
  fixed_by new fix (Ok prepared, build, of) = record {
    edges = edges;
    fix = fix;
    says = says;
    prepared = prepared;
    build = build;
    jobs_are = of.0;
    safe = of.1;
    all = of.2;
  }
  fixed_by new fix (Err reported, build, of) = absurd (cc of)

  -- lines that were tried, and do not fix the build
  pub unfixed_by : (refusal : Option Reported) → IsTried (with_lines texts lines) footprints jobs edges (Unsafe refusal)
      → IsUnfixed texts footprints jobs edges refusal
  unfixed_by refusal (Ok prepared, build, of) = tried lines prepared refusal says build of
  unfixed_by refusal (Err reported, build, of) =
      subst (λ (r : Option Reported). IsUnfixed texts footprints jobs edges r) (sym (same of)) (refused lines reported says build)
    where
      same : {x y : Option Reported} → ◌≡◌ {A = Tried} (Unsafe x) (Unsafe y) → x ≡ y
      same e = cc

-- a list without length is empty
pub empty_is : {X : Type 0} (xs : List X) → (length xs == 0) ≡ true → xs ≡ []
empty_is xs e = nil_from_length xs (eqb-true (length xs) 0 e)

-- jobs have all that they have, and no edges
have_none : (jobs : Jobs) → HaveAll jobs [] jobs
have_none jobs = record {
  count = refl;
  nodes = λ n inside. record { name = refl; phony = refl; maker = λ recipe. refl };
  needs = λ n inside. record {
    kept = λ k d below. Contains-get_or (prerequisites_of jobs n) k d below;
    only = λ recipe k d below. inl (Contains-get_or (prerequisites_of jobs n) k d below);
  };
  added = λ k d below. absurd (omega (arith, below));
}

module _ (jobs : Jobs) (edges : List (ℕ × ℕ)) (fix : IsFix jobs edges) (few : HasFewPairs jobs) (none : edges ≡ []) where
  -- jobs that need no edge are safe
  pub safe_of_none : AreSafe jobs
  safe_of_none = record { race_free = (nothing_to_fix jobs edges fix).0 none; few = few }

  pub none_holds : IsValid jobs → AreSafe jobs × IsDeterminateFromOneRun jobs
  none_holds valid = (safe_of_none, from_one_run jobs valid safe_of_none.race_free)

  -- a build of them is fixed by no lines
  pub fixed_by_none : (texts : Texts) (footprints lines : List ℕ) (prepared : Prepared) → lines ≡ [] → prepared.jobs ≡ jobs
      → IsPrepared texts footprints (Ok prepared) → IsFixedBy texts footprints jobs lines jobs
  fixed_by_none texts footprints lines prepared empty is build =
      subst (λ (text : List ℕ). IsFixedBy texts footprints jobs text jobs) (sym empty) (record {
        edges = [];
        fix = subst (IsFix jobs) none fix;
        says = refl;
        prepared = prepared;
        build = subst (λ (makefile : List ℕ). IsPrepared (record texts { makefile = makefile }) footprints (Ok prepared)) (sym (append-nil texts.makefile)) build;
        jobs_are = is;
        safe = safe_of_none;
        all = have_none jobs;
      })

-- where lines fix a build, no schedule of it shows, with the lines behind its makefile
shows_fixed : (texts : Texts) (footprints : List ℕ) (fixing : Fixing) → IsFixing texts footprints (Ok fixing) → HoldsOfJobs fixing → HoldsOfFixed texts footprints fixing
shows_fixed texts footprints (Fixed lines new) (Ok prepared, build, fixed) holds =
    no_build_shows new holds.1 fixed.prepared (with_lines texts lines.items) footprints fixed.jobs_are fixed.build
shows_fixed texts footprints (Fixed lines new) (Err reported, build, is) holds = absurd (cc is)
shows_fixed texts footprints (NotFixed jobs edges refusal) is holds = tt

-- so it is of all texts that a build was read from
pub fixing_shows : (From : Texts → List ℕ → Type 0) (result : Result Fixing Halt)
    → ((texts : Texts) (lines : List ℕ) → From texts lines → Answers result (IsFixing texts lines)) → IfOk result HoldsOfJobs
    → IfOk result (λ fixing. (texts : Texts) (lines : List ℕ) → From texts lines → HoldsOfFixed texts lines fixing)
fixing_shows From (Ok fixing) is holds = λ texts lines from. shows_fixed texts lines fixing (is texts lines from) holds
fixing_shows From (Err halt) is holds = tt
