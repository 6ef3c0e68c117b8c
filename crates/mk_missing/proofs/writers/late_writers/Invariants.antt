use Rattle.std.proofs.Common.{◌≡◌}
use Rattle.mk_missing.specs.Users.{files_of}
use Rattle.mk_missing.proofs.Naming.{AreLateBelow}
use Rattle.mk_missing.proofs.writers.late_writers.Given as goal

-- the writers so far are there, and the answers are about the same jobs
abbrev pub invariant-loop-k : goal.invariant-loop-k
invariant-loop-k l = record {
  late : AreLateBelow l.fn.checker (files_of l.users) l.pairs l.writers.items l.k-index;
  same : l.checker ≡ l.fn.checker;
}
