use Rattle.std.proofs.Common.{◌<◌, IfSome}
use Rattle.mk_index.specs.Ups.{number_count}
use Rattle.mk_index.proofs.Marking.{AreOverMarked}
use Rattle.mk_index.proofs.marks.mark_over.Given as goal

abbrev pub invariant-loop-q : goal.invariant-loop-q
invariant-loop-q l = record {
  over : AreOverMarked l.ups l.holders l.mine l.q-index l.last l.fn.row l.row;
  within : IfSome l.last (λ q. q < number_count l.ups);
}
