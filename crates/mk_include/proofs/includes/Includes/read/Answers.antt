use Rattle.std.proofs.Common.{[], arith}
use Rattle.mk_include.proofs.ReadPairs.{all_read, bad_here, good_more, texts_here}
use Rattle.mk_include.proofs.includes.Includes.read.Goals as goal

pub returns-in-Err : goal.returns-in-Err
returns-in-Err c =
    rw c.at.ensures
    (bad_here c.args.root.now (λ pair. (pair.0.now, pair.1.now)) c.args.pairs.now c.loop-i.i (record { ref_ptr = (0, 0); now = [] }, record { ref_ptr = (0, 0); now = [] }) c.loop-i-test.true c.loop-i.invariant.bad c.in-Err.halt c.in-Err.ensures)

pub loop-i-preserved : goal.loop-i-preserved
loop-i-preserved c = record {
  bad = good_more c.args.root.now (λ pair. (pair.0.now, pair.1.now)) c.args.pairs.now c.loop-i.i (record { ref_ptr = (0, 0); now = [] }, record { ref_ptr = (0, 0); now = [] }) c.loop-i-test.true c.loop-i.invariant.bad c.in-Ok.name c.in-Ok.ensures;
  texts = texts_here c.args.root.now (λ pair. (pair.0.now, pair.1.now)) c.args.pairs.now c.loop-i.i (record { ref_ptr = (0, 0); now = [] }, record { ref_ptr = (0, 0); now = [] }) c.loop-i-test.true c.loop-i.invariant.bad c.in-Ok.name c.in-Ok.ensures c.loop-i.includes c.add.new.self c.loop-i.invariant.texts c.in_ok-add-in-Ok.ensures;
}

pub returns : goal.returns
returns c = all_read c.args.root.now (λ pair. (pair.0.now, pair.1.now)) c.args.pairs.now c.loop-i.i c.loop-i.includes (omega arith) c.loop-i.invariant.bad c.loop-i.invariant.texts
