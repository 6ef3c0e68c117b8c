use Rattle.std.proofs.Common.{ℕ, ◌<◌, [], get_or}
use Rattle.mk_cert.proofs.Edged.{IsGood}
use Rattle.mk_cert.proofs.edges.are_chains.Given as goal

abbrev pub invariant-loop-number : goal.invariant-loop-number
invariant-loop-number l = (k : ℕ) → k < l.number → IsGood l.jobs (get_or l.certificate k [])
