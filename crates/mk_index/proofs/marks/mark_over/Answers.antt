use Rattle.mk_index.proofs.Marking.{over_more, over_all}
use Rattle.mk_index.proofs.marks.mark_over.Goals as goal

pub loop-q-preserved : goal.loop-q-preserved
loop-q-preserved c =
    let mine = c.args.mine.now in
    let i = c.loop-q.q-index in
    record {
      over = over_more c.args.ups.now c.args.holders.now mine i c.loop-q.last c.args.row.now c.loop-q.row c.climb.new.row c.loop-q-test.true c.loop-q.invariant.over
          c.climb.ensures.kept c.climb.ensures.sound c.climb.ensures.marked;
      within = c.requires.mine i 0 c.loop-q-test.true;
    }

pub returns : goal.returns
returns c = over_all c.args.ups.now c.args.holders.now c.args.mine.now c.loop-q.q-index c.loop-q.last c.args.row.now c.loop-q.row c.loop-q-test.false c.loop-q.invariant.over
