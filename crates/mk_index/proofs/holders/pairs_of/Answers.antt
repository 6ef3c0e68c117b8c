use Rattle.std.proofs.Common.{◌≡◌, length, subst, arith}
use Rattle.mk_index.specs.Holders.{ArePairs}
use Rattle.mk_index.proofs.Holding.{pairs_more}
use Rattle.mk_index.proofs.holders.pairs_of.Goals as goal

pub loop-n-preserved : goal.loop-n-preserved
loop-n-preserved c =
    pairs_more c.args.rows.now c.loop-n.n c.row.result.now c.loop-n.pairs.items c.add_pairs.new.pairs.items c.loop-n.invariant c.row.ensures c.in_ok-add_pairs.ensures

pub returns : goal.returns
returns c =
    let all : c.loop-n.n ≡ length c.args.rows.now = omega (arith, c.loop-n-test.false, c.loop-n.auto.n-end, c.count-n-end.ensures) in
    subst (λ n. ArePairs c.args.rows.now n c.loop-n.pairs.items) all c.loop-n.invariant
