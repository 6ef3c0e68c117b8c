use Rattle.std.proofs.Common.{ℕ, ◌<◌}
use Rattle.mk_cert.proofs.Edged.{IsStep}
use Rattle.mk_cert.proofs.edges.goes_along.Given as goal

abbrev pub invariant-loop-place : goal.invariant-loop-place
invariant-loop-place l = (k : ℕ) → 0 < k → k < l.place → IsStep l.jobs l.chain k
