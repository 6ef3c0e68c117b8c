use Rattle.std.proofs.Common.{ℕ, ◌≢◌, ◌<◌}
use Rattle.mk_index.specs.Uses.{Reaches}
use Rattle.mk_jobs.specs.Reaching.{uses_of}
use Rattle.mk_cert.specs.Pairs.{IsPaired}
use Rattle.mk_cert.proofs.pairs.has_chains.Given as goal

abbrev pub invariant-loop-b : goal.invariant-loop-b
invariant-loop-b l = (a b : ℕ) → b < l.b → a ≢ b → Reaches (uses_of l.jobs) a b → IsPaired l.certificate a b
