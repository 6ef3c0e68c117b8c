use Rattle.std.proofs.Common.{map, reverse}
use Rattle.mk_index.specs.Nearest.{AreNearest}
use Rattle.mk_index.specs.Sweep.{IsStackAt}
use Rattle.mk_index.proofs.nearest.next_above.Given as goal

abbrev pub invariant-loop-t : goal.invariant-loop-t
invariant-loop-t l = record {
  nearest : AreNearest l.root (map (λ path. path.now) l.paths) l.t l.next.items;
  stack : IsStackAt (map (λ path. path.now) l.paths) l.t (reverse l.stack.items);
}
