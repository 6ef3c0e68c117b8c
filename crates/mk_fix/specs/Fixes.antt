-- The fix of jobs: edges that make them race-free, each of them needed.
use Rattle.std.specs.Prelude.{ℕ, ◌≡◌, List, ◌∷◌, ◌++◌, Contains}
use Rattle.mk_jobs.specs.Jobs.{Jobs, Before, IsRaceFree}
use Rattle.mk_decide.specs.Pairs.{PairsRise}
use Rattle.mk_decide.specs.Races.{IsRace}
use Rattle.mk_fix.specs.Added.{with_edges}

-- a fix: some of the races, in order; with all of them as edges the jobs are race-free; and each is needed, since the jobs with
-- the others alone do not put its two nodes in order
pub record IsFix (jobs : Jobs) (edges : List (ℕ × ℕ)) : Type 0 where
  pub rise : PairsRise edges
  pub races : (a b : ℕ) → Contains edges (a, b) → IsRace jobs a b
  pub free : IsRaceFree (with_edges jobs edges)
  pub needed : (front back : List (ℕ × ℕ)) (a b : ℕ) → edges ≡ front ++ (a, b) ∷ back → Before (with_edges jobs (front ++ back)) a b → ⊥
