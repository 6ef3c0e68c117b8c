use Rattle.std.proofs.Common.{◌≡◌, ◌-◌, drop, length}
use Rattle.mk_cert.specs.Standing.{HoldsTimes}
use Rattle.mk_cert.proofs.times.by_node.Given as goal

abbrev pub invariant-loop-place : goal.invariant-loop-place
invariant-loop-place l = record {
  long : length l.table.items ≡ l.count;
  reports : HoldsTimes l.table.items (drop (length l.times - l.place) l.times);
}
