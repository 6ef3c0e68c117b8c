use Rattle.std.proofs.Common.{arith, codes}
use Rattle.mk_proof.specs.ProofText.{words_of}
use Rattle.mk_proof.proofs.Found.{numbers_same}
use Rattle.mk_proof.proofs.line.time_in.Goals as goal
use Rattle.mk_proof.proofs.line.time_in.Goals.{else-node-le-GREATEST_NODE-via-then-node-le-GREATEST_NODE+else-time-le-GREATEST_TIME, else-node-le-GREATEST_NODE-via-else-node-le-GREATEST_NODE}

pub returns-else-node-le-GREATEST_NODE : goal.returns-else-node-le-GREATEST_NODE
returns-else-node-le-GREATEST_NODE c = λ p timed is.
    let found = c.in_ok-node.ensures in
    let same = numbers_same (codes "time") (words_of c.args.line.now) p (c.in_ok-node.node, c.in_ok-node.time)
    (omega (arith, timed.0)) (omega (arith, timed.1)) (omega (arith, found.0.0)) (omega (arith, found.0.1)) is found.1 in
    elim c.else-node-le-GREATEST_NODE.branch [
      | else-node-le-GREATEST_NODE-via-then-node-le-GREATEST_NODE+else-time-le-GREATEST_TIME w ↦ omega (arith, timed.1, same.1, w.if-time-le-GREATEST_TIME.false)
      | else-node-le-GREATEST_NODE-via-else-node-le-GREATEST_NODE w ↦ omega (arith, timed.0, same.0, w.if-node-le-GREATEST_NODE.false)
    ]
