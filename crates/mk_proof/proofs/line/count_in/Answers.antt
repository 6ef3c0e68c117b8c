use Rattle.std.proofs.Common.{arith, codes}
use Rattle.mk_proof.specs.ProofText.{words_of}
use Rattle.mk_proof.proofs.Found.{number_same}
use Rattle.mk_proof.proofs.line.count_in.Goals as goal

pub returns-else-count-le-MOST_CHAINS : goal.returns-else-count-le-MOST_CHAINS
returns-else-count-le-MOST_CHAINS c = λ n small is.
    let found = c.in_ok-count.ensures in
    let same = number_same (codes "certificate") (words_of c.args.line.now) n c.in_ok-count.field-0 (omega arith) (omega (arith, found.0)) is found.1 in
    omega (arith, small, same, c.if-count-le-MOST_CHAINS.false)
