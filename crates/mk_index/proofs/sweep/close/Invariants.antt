use Rattle.std.proofs.Common.{length, map, reverse}
use Rattle.mk_index.specs.Sweep.{AreOpen, KeepsBegins}
use Rattle.mk_index.proofs.sweep.close.Given as goal

abbrev pub invariant-loop-top : goal.invariant-loop-top
invariant-loop-top l = record {
  are : AreOpen (map (λ path. path.now) l.paths) (reverse l.stack.items);
  begins : KeepsBegins (map (λ path. path.now) l.paths) l.name (reverse l.stack.items);
}

abbrev pub decreases-loop-top : goal.decreases-loop-top
decreases-loop-top l = length l.stack.items
