-- What is so of a build with no race and no violation.
use Rattle.std.proofs.Common.{ℕ, zero, suc, ◌≡◌, ◌<◌, ◌+◌, ◌⊎◌, List, [], ◌∷◌, Ok, Err, IfOk, Option, None, Result, Contains, refl, sym, subst, ◌∙◌, inl, inr, arith}
use Rattle.std.proofs.lemmas.Bool.{cases_order}
use Rattle.mk_name.specs.Names.{Name}
use Rattle.mk_name.specs.Gives.{Answers}
use Rattle.mk_name.specs.declared.fault.Halt.{Halt}
use Rattle.mk_name.specs.declared.fault.Halt.TheVariants as halts
use Rattle.mk_jobs.specs.Jobs.{Jobs, Before, edge, further, Clash, IsPrerequisite, IsRaceFree, IsValid, prerequisites_of}
use Rattle.mk_jobs.specs.Shape.{IsWellFormed}
use Rattle.mk_jobs.proofs.JobsLemmas.{shape_valid}
use Rattle.mk_jobs.proofs.Reaching.{turned_clash}
use Rattle.mk_sched.specs.Schedules.{IsDeterminateFromOneRun}
use Rattle.mk_sched.proofs.Staying.{from_one_run}
use Rattle.mk_missing.specs.Watching.{IsDeclared}
use Rattle.mk_missing.proofs.FromClean.{as_from_clean}
use Rattle.mk_decide.proofs.Finding.{race_is}
use Rattle.mk_fix.specs.AllRaces.{AreRaces}
use Rattle.mk_fix.proofs.Adding.{cons_cases, here, none_in, there}
use Rattle.mk_missing.specs.Unlisted.{unlisted_names}
use Rattle.mk_race.specs.Again.{IsChange}
use Rattle.mk_race.specs.Missing.{BuildsAsClean, IsEmpty, IsMissingList, IsMissingListOf, LeavesAsClean}
use Rattle.mk_read.specs.declared.input.Input.{Input}
use Rattle.mk_race.specs.Stages.{IsPrepared, Texts, texts_with}
use Rattle.mk_race.specs.TasksMissing.{IsPreparedBelow, TasksBuildAsClean}
use Rattle.mk_race.specs.declared.again.BuildChange.{BuildChange}
use Rattle.mk_race.specs.declared.missing.MissingList.{MissingList}
use Rattle.mk_race.specs.declared.preparing.Prepared.{Prepared}
use Rattle.mk_race.proofs.Alike.{runs_alike}
use Rattle.mk_race.proofs.OneBuild.{build_is_one}

-- a is one of these nodes, or before one of them
abbrev Leads : Jobs → ℕ → List ℕ → Type 0
Leads jobs a nodes = (p : ℕ) × Contains nodes p × ((p ≡ a) ⊎ Before jobs a p)

leads_or_not : (jobs : Jobs) (a : ℕ) (nodes : List ℕ) → ((p : ℕ) → Contains nodes p → Before jobs a p ⊎ (Before jobs a p → ⊥))
    → Leads jobs a nodes ⊎ (Leads jobs a nodes → ⊥)
leads_or_not jobs a [] each = inr (λ leads. none_in leads.0 leads.1)
leads_or_not jobs a (p ∷ ps) each = elim (cases_order a p) [
  | inl same ↦ inl (p, here p ps, inl (sym same))
  | inr differ ↦ elim (each p (here p ps)) [
    | inl before ↦ inl (p, here p ps, inr before)
    | inr apart ↦ elim (leads_or_not jobs a ps (λ q within. each q (there p ps q within))) [
      | inl leads ↦ inl (leads.0, there p ps leads.0 leads.1, leads.2)
      | inr none ↦ inr (λ leads. elim (cons_cases p ps leads.0 leads.1) [
        | inl is ↦ elim leads.2 [
          | inl same ↦ let equal : p ≡ a = is ∙ same in elim differ [ inl less ↦ omega (arith, less, equal) | inr more ↦ omega (arith, more, equal) ]
          | inr before ↦ apart (subst (λ (q : ℕ). Before jobs a q) (sym is) before)
        ]
        | inr rest ↦ none (leads.0, rest, leads.2)
      ])
    ]
  ]
]

last_edge : {jobs : Jobs} {a b : ℕ} → Before jobs a b → Leads jobs a (prerequisites_of jobs b)
last_edge {jobs} {a} {b} (edge p) = (a, p, inl refl)
last_edge {jobs} {a} {b} (further {b = m} chain p) = (m, p, inr chain)

-- a node is before another, or it is not
before_or_not : (jobs : Jobs) → IsValid jobs → (bound a b : ℕ) → b < bound → Before jobs a b ⊎ (Before jobs a b → ⊥)
before_or_not jobs valid zero a b below = absurd (omega (arith, below))
before_or_not jobs valid (suc bound) a b below =
    elim (leads_or_not jobs a (prerequisites_of jobs b) (λ p need. before_or_not jobs valid bound a p (let less = valid.smaller b p need in omega (arith, below, less)))) [
      | inl leads ↦ inl (elim leads.2 [
        | inl same ↦ edge (subst (λ (q : ℕ). IsPrerequisite jobs q b) same leads.1)
        | inr before ↦ further before leads.1
      ])
      | inr none ↦ inr (λ before. none (last_edge before))
    ]

-- without a race nodes that clash are in order
in_order : (jobs : Jobs) (races : List (ℕ × ℕ)) (a b : ℕ) → IsWellFormed jobs → AreRaces jobs races → races ≡ [] → a < b → Clash jobs a b → Before jobs a b
in_order jobs races a b shape are none less clash = elim (before_or_not jobs (shape_valid shape) (b + 1) a b (omega arith)) [
  | inl before ↦ before
  | inr apart ↦ absurd (none_in (a, b) (subst (λ (rs : List (ℕ × ℕ)). Contains rs (a, b)) none ((are.races_are a b).1 (race_is jobs a b shape less clash apart))))
]

free_of_none : (jobs : Jobs) (races : List (ℕ × ℕ)) → IsWellFormed jobs → AreRaces jobs races → races ≡ [] → IsRaceFree jobs
free_of_none jobs races shape are none a b clash = elim (cases_order a b) [
  | inl same ↦ absurd (clash.1.different same)
  | inr (inl less) ↦ inl (in_order jobs races a b shape are none less clash)
  | inr (inr more) ↦ inr (in_order jobs races b a shape are none more (turned_clash clash))
]

-- so they are determinate from one run
pub one_of_none : (jobs : Jobs) (races : List (ℕ × ℕ)) → IsWellFormed jobs → AreRaces jobs races → races ≡ [] → IsDeterminateFromOneRun jobs
one_of_none jobs races shape are none = from_one_run jobs (shape_valid shape) (free_of_none jobs races shape are none)

-- and builds of old trees leave what those of clean ones leave, where jobs are declared too
pub leaves_as_clean : (jobs : Jobs) (listing : List Name) (races : List (ℕ × ℕ)) → IsWellFormed jobs → AreRaces jobs races → races ≡ []
    → IsDeclared jobs (unlisted_names jobs listing) → LeavesAsClean jobs listing
leaves_as_clean jobs listing races shape are none declared = λ programs opening clean a b kept is_clean same of_opening of_clean within.
    as_from_clean jobs programs (unlisted_names jobs listing) opening clean a b (shape_valid shape) (free_of_none jobs races shape are none) declared
    kept is_clean same of_opening of_clean within

-- and so it is of the build that texts mean
pub builds_as_clean : (texts : Texts) (footprints : List ℕ) (prepared : Prepared) (change : Option BuildChange) → IsPrepared texts footprints (Ok prepared)
    → IsChange texts prepared change → change ≡ None → LeavesAsClean prepared.jobs prepared.listing → IsDeterminateFromOneRun prepared.jobs → BuildsAsClean texts footprints
builds_as_clean texts footprints prepared change build is none as_clean one = record {
  shows = record {
    prepared = prepared;
    build = build;
    only = λ other same. build_is_one texts footprints prepared other build same;
    alike = runs_alike texts footprints prepared build one;
  };
  again = subst (IsChange texts prepared) none is;
  as_clean = as_clean;
}

-- what is listed of what was prepared, beside the change of a second build, is what is listed of the build
pub changed_list : (texts : Texts) (footprints : List ℕ) (prepared : Prepared) (change : Option BuildChange) (result : Result MissingList Halt)
    → IsPrepared texts footprints (Ok prepared) → IsChange texts prepared change → Answers result (IsMissingListOf prepared change)
    → Answers result (IsMissingList texts footprints)
changed_list texts footprints prepared change (Ok listed) build is h = (Ok prepared, build, (change, is, h))
changed_list texts footprints prepared change (Err halts.Memory) build is h = tt
changed_list texts footprints prepared change (Err (halts.Fault reported)) build is h = (Ok prepared, build, (change, is, h))

-- the change of a build with this input is that of its texts
pub changed : (input : Input) (texts : Texts) (prepared : Prepared) (change : Option BuildChange) → texts ≡ texts_with input texts.listing
    → IsChange (texts_with input []) prepared change → IsChange texts prepared change
changed input texts prepared change are is =
    let there : IsChange (texts_with input texts.listing) prepared change = is in
    subst (λ (t : Texts). IsChange t prepared change) (sym are) there

-- and where that is empty, builds of old trees leave what those of clean ones leave
pub builds_headline : (input : Input) (prepared : Prepared) (change : Option BuildChange) (result : Result MissingList Halt) → IsChange (texts_with input []) prepared change
    → Answers result (IsMissingListOf prepared change) → IfOk result (λ given. IsEmpty given → LeavesAsClean prepared.jobs prepared.listing)
    → IfOk result (λ given. IsEmpty given → IsDeterminateFromOneRun prepared.jobs)
    → IfOk result (λ given. IsEmpty given → (texts : Texts) (lines : List ℕ) → texts ≡ texts_with input texts.listing → IsPrepared texts lines (Ok prepared)
    → BuildsAsClean texts lines)
builds_headline input prepared change (Ok given) is h leaves one = λ empty texts lines are build.
    builds_as_clean texts lines prepared change build (changed input texts prepared change are is) (sym h.3 ∙ empty.change) (leaves empty) (one empty)
builds_headline input prepared change (Err halt) is h leaves one = tt

-- the same of tasks
pub tasks_as_clean : (root listing tasks : List ℕ) (prepared : Prepared) (result : Result MissingList Halt) → IsPreparedBelow root listing tasks (Ok prepared)
    → IfOk result (λ given. IsEmpty given → LeavesAsClean prepared.jobs prepared.listing) → IfOk result (λ given. IsEmpty given → IsDeterminateFromOneRun prepared.jobs)
    → IfOk result (λ given. IsEmpty given → TasksBuildAsClean root listing tasks)
tasks_as_clean root listing tasks prepared (Ok given) is leaves one = λ empty. record { prepared = prepared; given = is; from_one_run = one empty; as_clean = leaves empty }
tasks_as_clean root listing tasks prepared (Err halt) is leaves one = tt
