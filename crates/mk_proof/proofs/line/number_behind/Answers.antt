use Rattle.mk_proof.proofs.Found.{behind_found}
use Rattle.mk_proof.proofs.line.number_behind.Goals as goal

pub returns : goal.returns
returns c = behind_found c.args.word.now c.args.line.now c.in_ok-behind.field-0.now c.number.result c.in_ok-behind.ensures.behind c.number.ensures
