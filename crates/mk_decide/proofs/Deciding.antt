-- Verdicts, and what they give.
use Rattle.std.proofs.Common.{ℕ, ◌≡◌, ◌∙◌, ◌≤◌, ◌↔◌, Bool, true, false, IfNone, IfSome, IsTrue, List, Option, None, Some, All, get_or, is_some, length, not, refl, sym, subst, inl, inr, arith}
use Rattle.std.specs.Bool.{Decides}
use Rattle.std.specs.List.{Contains}
use Rattle.std.specs.Ordering.{eq_by_cmp}
use Rattle.std.proofs.lemmas.Bool.{cases_order, false≢true}
use Rattle.std.proofs.lemmas.Cmp.{eq_by_cmp_equiv}
use Rattle.std.proofs.lemmas.List.Elements.{All-contains, Contains-get_or}
use Rattle.std.proofs.lemmas.Map.Keys.{IsDistinct-from_sorted}
use Rattle.std.proofs.lemmas.Map.Made.{is_member-Decides, length-le_from_is_member}
use Rattle.mk_jobs.specs.Jobs.{Jobs, Before, IsRaceFree, IsValid}
use Rattle.mk_jobs.specs.Shape.{IsWellFormed}
use Rattle.mk_jobs.proofs.JobsLemmas.{before_less, shape_valid}
use Rattle.mk_jobs.proofs.Reaching.{turned_clash}
use Rattle.mk_proof.specs.Shapes.{pair_cmp}
use Rattle.mk_proof.proofs.Risen.{pair_cmp_total}
use Rattle.mk_sched.specs.Laws.{IsDeterminate}
use Rattle.mk_sched.specs.Schedules.{IsDeterminateFromOneRun}
use Rattle.mk_sched.proofs.Determinate.{headline}
use Rattle.mk_sched.proofs.Staying.{from_one_run}
use Rattle.mk_cert.specs.Sure.{IsSure}
use Rattle.mk_cert.specs.Traces.{TraceHolds}
use Rattle.mk_cert.proofs.Overlapping.{of_race}
use Rattle.mk_cert.proofs.Sound.{holds}
use Rattle.mk_decide.specs.declared.decision.Verdict.{Verdict}
use Rattle.mk_decide.specs.declared.decision.Verdict.TheVariants.{Safe, Race}
use Rattle.mk_decide.specs.Decisions.{IfRace, IsSafe, IsVerdict}
use Rattle.mk_decide.specs.Pairs.{ArePairs, HasFewPairs, HasManyPairs, OnlyClashing, PairsRise}
use Rattle.mk_decide.specs.Races.{HasLeastRace, IsLeastRace}
use Rattle.mk_decide.specs.ShortVerdicts.{IsShortVerdict}
use Rattle.mk_decide.proofs.Paired.{pair_equal, pair_ties}

-- where all clashing pairs are in order, the jobs are race-free
pub ordered_free : (jobs : Jobs) (pairs : List (ℕ × ℕ)) → ArePairs jobs pairs → All (λ (p : ℕ × ℕ). Before jobs p.0 p.1) pairs → IsRaceFree jobs
ordered_free jobs pairs are ordered a b clash = elim (cases_order a b) [
  | inl same ↦ absurd (clash.1.different same)
  | inr (inl less) ↦ inl (All-contains (λ (p : ℕ × ℕ). Before jobs p.0 p.1) pairs (a, b) ordered ((are.clash a b).1 (less, clash)))
  | inr (inr more) ↦ inr (All-contains (λ (p : ℕ × ℕ). Before jobs p.0 p.1) pairs (b, a) ordered ((are.clash b a).1 (more, turned_clash clash)))
]

-- safe jobs are determinate
pub safe_determinate : (jobs : Jobs) (verdict : Verdict) → IsWellFormed jobs → IsVerdict jobs verdict → IsSafe verdict → IsDeterminate jobs
safe_determinate jobs (Safe chains) shape is safe = headline jobs (shape_valid shape) is.race_free
safe_determinate jobs (Race trace) shape is safe = absurd safe

-- and one run of them is enough
pub safe_from_one_run : (jobs : Jobs) (verdict : Verdict) → IsWellFormed jobs → IsVerdict jobs verdict → IsSafe verdict → IsDeterminateFromOneRun jobs
safe_from_one_run jobs (Safe chains) shape is safe = from_one_run jobs (shape_valid shape) is.race_free
safe_from_one_run jobs (Race trace) shape is safe = absurd safe

-- the trace of a race is sure, so it holds
pub race_sure : (jobs : Jobs) (verdict : Verdict) → IsWellFormed jobs → IsVerdict jobs verdict → IfRace verdict (IsSure jobs)
race_sure jobs (Safe chains) shape is = tt
race_sure jobs (Race trace) shape is = of_race jobs trace shape (shape_valid shape) is.race

pub race_holds : (jobs : Jobs) (verdict : Verdict) → IsWellFormed jobs → IsVerdict jobs verdict → IfRace verdict (TraceHolds jobs)
race_holds jobs (Safe chains) shape is = tt
race_holds jobs (Race trace) shape is = holds jobs trace (shape_valid shape) (of_race jobs trace shape (shape_valid shape) is.race)

-- in race-free jobs whatever clashes is in order
pub all_ordered : (jobs : Jobs) (pairs : List (ℕ × ℕ)) → IsValid jobs → IsRaceFree jobs → OnlyClashing jobs pairs → All (λ (p : ℕ × ℕ). Before jobs p.0 p.1) pairs
all_ordered jobs pairs valid free only = λ k d inside.
    let p = get_or pairs k d in
    let one = only p.0 p.1 (Contains-get_or pairs k d inside) in
    elim (free p.0 p.1 one.1) [
      | inl before ↦ before
      | inr back ↦ absurd (let less = before_less valid back in let more = one.0 in omega (arith, less, more))
    ]

-- so it is with a short certificate
pub short_determinate : (jobs : Jobs) (verdict : Verdict) → IsWellFormed jobs → IsShortVerdict jobs verdict → IsSafe verdict → IsDeterminate jobs
short_determinate jobs (Safe chains) shape is safe = headline jobs (shape_valid shape) is.race_free
short_determinate jobs (Race trace) shape is safe = absurd safe

pub short_from_one_run : (jobs : Jobs) (verdict : Verdict) → IsWellFormed jobs → IsShortVerdict jobs verdict → IsSafe verdict → IsDeterminateFromOneRun jobs
short_from_one_run jobs (Safe chains) shape is safe = from_one_run jobs (shape_valid shape) is.race_free
short_from_one_run jobs (Race trace) shape is safe = absurd safe

-- a list of pairs that has all of another is as long at least
no_longer : (some all : List (ℕ × ℕ)) → PairsRise some → ((p : ℕ × ℕ) → Contains some p → Contains all p) → length some ≤ length all
no_longer some all rise there =
    let same : (p q : ℕ × ℕ) → Decides (eq_by_cmp pair_cmp p q) (p ≡ q) = λ p q. (
      λ ties. pair_equal p q (pair_ties p q ∙ ties),
      λ is. subst (λ (r : ℕ × ℕ). eq_by_cmp pair_cmp p r ≡ true) is ((eq_by_cmp_equiv pair_cmp_total).refl p),
    ) in
    length-le_from_is_member (eq_by_cmp_equiv pair_cmp_total) some all (IsDistinct-from_sorted pair_cmp some rise)
    (λ p held. (is_member-Decides same all p).1 (there p ((is_member-Decides same some p).0 held)))

-- where few pairs clash, not many do
pub few_not_many : {jobs : Jobs} → HasFewPairs jobs → HasManyPairs jobs → ⊥
few_not_many few many =
    let long = no_longer many.pairs few.pairs many.rise (λ p there. (few.all.clash p.0 p.1).1 (many.clash p.0 p.1 there)) in
    let up = few.few in
    let over = many.many in
    omega (arith, long, up, over)

-- no race was found among all pairs that clash just where the jobs are race-free
pub free_if_none : (jobs : Jobs) (pairs : List (ℕ × ℕ)) (race : Option (ℕ × ℕ)) (free : Bool) → ArePairs jobs pairs
    → IfNone race (All (λ (p : ℕ × ℕ). Before jobs p.0 p.1) pairs) → IfSome race (λ r. IsLeastRace jobs r.0 r.1) → is_some race ≡ not free → IsTrue free ↔ IsRaceFree jobs
free_if_none jobs pairs None true are ordered least is = (λ _. ordered_free jobs pairs are ordered, λ _. refl)
free_if_none jobs pairs None false are ordered least is = absurd (false≢true is)
free_if_none jobs pairs (Some race) true are ordered least is = absurd (false≢true (sym is))
free_if_none jobs pairs (Some race) false are ordered least is = (λ so. absurd (false≢true so), λ free. absurd (least.race.apart (free race.0 race.1 least.race.clash)))

-- where one was found, there is a least one
pub race_if_some : (jobs : Jobs) (race : Option (ℕ × ℕ)) (free : Bool) → IfSome race (λ r. IsLeastRace jobs r.0 r.1) → is_some race ≡ not free → free ≡ false → HasLeastRace jobs
race_if_some jobs None true least is races = absurd (false≢true (sym races))
race_if_some jobs None false least is races = absurd (false≢true is)
race_if_some jobs (Some race) free least is races = (race.0, race.1, least)
