use Rattle.std.proofs.Common.{arith, codes}
use Rattle.mk_proof.specs.ProofText.{words_of}
use Rattle.mk_proof.proofs.Found.{numbers_same}
use Rattle.mk_proof.proofs.line.nodes_in.Goals as goal
use Rattle.mk_proof.proofs.line.nodes_in.Goals.{else-first-second-via-then-first-second+else-second-le-GREATEST_NODE, else-first-second-via-else-first-second}

pub returns-else-first-second : goal.returns-else-first-second
returns-else-first-second c = λ p nodes is.
    let found = c.in_ok-first.ensures in
    let same = numbers_same (codes "trace") (words_of c.args.line.now) p (c.in_ok-first.first, c.in_ok-first.second)
    (omega (arith, nodes.0, nodes.1)) (omega (arith, nodes.1)) (omega (arith, found.0.0)) (omega (arith, found.0.1)) is found.1 in
    elim c.else-first-second.branch [
      | else-first-second-via-then-first-second+else-second-le-GREATEST_NODE w ↦ omega (arith, nodes.1, same.1, w.if-second-le-GREATEST_NODE.false)
      | else-first-second-via-else-first-second w ↦ omega (arith, nodes.0, same.0, same.1, w.if-first-second.false)
    ]
