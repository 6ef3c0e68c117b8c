use Rattle.std.proofs.Common.{◌≡◌, map}
use Rattle.mk_index.specs.Holders.{AreFirsts}
use Rattle.mk_index.proofs.Holding.{IsBegun}
use Rattle.mk_index.proofs.holders.firsts.Given as goal

abbrev pub invariant-loop-t : goal.invariant-loop-t
invariant-loop-t l = record {
  nodes : l.nodes.items ≡ map (λ pair. pair.1) l.pairs;
  done : AreFirsts l.pairs l.t l.table;
  begun : IsBegun l.pairs l.start l.t;
}
