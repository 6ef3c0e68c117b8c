use Rattle.std.proofs.Common.{arith}
use Rattle.mk_proof.specs.ProofText.{words_of}
use Rattle.mk_proof.proofs.Found.{number_same}
use Rattle.mk_proof.proofs.line.node_behind.Goals as goal

pub returns-else-node-le-GREATEST_NODE : goal.returns-else-node-le-GREATEST_NODE
returns-else-node-le-GREATEST_NODE c = λ n small is.
    let found = c.in_ok-node.ensures in
    let same = number_same c.args.word.now (words_of c.args.line.now) n c.in_ok-node.node (omega arith) (omega (arith, found.0)) is found.1 in
    omega (arith, small, same, c.if-node-le-GREATEST_NODE.false)
