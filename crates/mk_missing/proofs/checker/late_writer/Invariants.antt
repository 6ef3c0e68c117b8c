use Rattle.std.proofs.Common.{◌≡◌, All, take}
use Rattle.mk_jobs.specs.Jobs.{Before}
use Rattle.mk_missing.proofs.checker.late_writer.Given as goal

-- the nodes so far are before it
abbrev pub invariant-loop-m : goal.invariant-loop-m
invariant-loop-m l = record {
  before : All (λ m. Before l.initial.before m l.n) (take l.m-index l.nodes);
  same : l.before ≡ l.initial.before;
}
