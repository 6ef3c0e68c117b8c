use Rattle.std.proofs.Common.{◌<◌, length, arith, sym, ◌∙◌}
use Rattle.mk_text.proofs.Joins.{below_same, below_other}
use Rattle.mk_text.proofs.components.rest_below.Goals as goal

pub returns-then-ne : goal.returns-then-ne
returns-then-ne c =
    sym (below_other (λ part. part.items) (λ x. x.now) c.args.root.now c.args.parts.now c.loop-i.i c.index-root-i.result c.in-Some.other.now c.loop-i-test.true c.in-Some.ensures.lookup.3.0 c.index-root-i.is c.in-Some.ensures.lookup.1 (rw (← c.as_slice.ensures.value) (sym (c.if-ne.ensures)))) ∙ c.loop-i.invariant.answer

pub loop-i-preserved : goal.loop-i-preserved
loop-i-preserved c =
    let inside : c.loop-i.i < length c.args.parts.now = c.in-Some.ensures.lookup.3.0 in
    record {
      room = omega arith;
      answer = sym (below_same (λ part. part.items) (λ x. x.now) c.args.root.now c.args.parts.now c.loop-i.i c.index-root-i.result c.in-Some.other.now c.loop-i-test.true inside c.index-root-i.is c.in-Some.ensures.lookup.1 (rw (← c.as_slice.ensures.value) (sym (c.if-ne.ensures)))) ∙ c.loop-i.invariant.answer;
    }
