use Rattle.std.proofs.Common.{ℕ, ◌≡◌, ◌<◌, true}
use Rattle.mk_path.specs.Paths.{covered}
use Rattle.mk_jobs.specs.Plan.{node_at}
use Rattle.model_tests.proofs.rows.owns_alone.Given as goal

-- no name so far is covered but that of n
abbrev pub invariant-loop-m : goal.invariant-loop-m
invariant-loop-m l = (k : ℕ) → k < l.m → covered l.root l.paths (node_at l.plan.nodes k).name ≡ true → l.n ≡ k
