use Rattle.std.proofs.Common.{arith}
use Rattle.mk_decide.proofs.Merging.{merged_more, merged_end}
use Rattle.mk_decide.proofs.words.merge_words.Goals as goal

pub loop-i-preserved : goal.loop-i-preserved
loop-i-preserved c = merged_more c.loop-i.i c.args.into.now c.args.from.now c.loop-i.into c.loop-i.invariant (omega arith) (omega arith)

pub returns : goal.returns
returns c = merged_end c.loop-i.i c.args.into.now c.args.from.now c.loop-i.into c.loop-i.invariant (omega arith) (omega arith)
