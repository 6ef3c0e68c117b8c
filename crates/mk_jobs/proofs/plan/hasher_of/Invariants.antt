use Rattle.std.proofs.Common.{take}
use Rattle.sha2.specs.Hashers.{Holds256}
use Rattle.mk_table.specs.Hashing.{key_text}
use Rattle.mk_jobs.specs.Plan.{names_of}
use Rattle.mk_jobs.proofs.plan.hasher_of.Given as goal

-- the names of the nodes so far are fed
abbrev pub invariant-loop-node : goal.invariant-loop-node
invariant-loop-node l = Holds256 l.digest (key_text (names_of (take l.node-index l.nodes)))
