use Rattle.std.proofs.Common.{◌+◌, ◌-◌, ◌*◌, arith}
use Rattle.mk_decide.proofs.Sweeping.{pairs_merged}
use Rattle.mk_decide.proofs.neighbours.merge_row.Goals as goal

pub returns : goal.returns
returns c =
    pairs_merged c.args.node (c.args.node * 313 + 313 - c.args.node * 313) c.args.table.now c.args.bits.now c.merge.new.into (omega arith) c.requires.there c.requires.wide
    c.merge.ensures (omega (arith, c.requires.wide, c.merge.ensures))
