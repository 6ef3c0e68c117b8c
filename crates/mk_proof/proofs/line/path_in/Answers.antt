use Rattle.std.proofs.lemmas.Result.{IfOk-weaker}
use Rattle.mk_proof.proofs.Found.{path_found}
use Rattle.mk_proof.proofs.line.path_in.Goals as goal

pub returns-in-Some : goal.returns-in-Some
returns-in-Some c = IfOk-weaker c.bytes_in.result _ _ (λ found is. path_found c.args.line.now c.in-Some.text.now _ c.in-Some.ensures.behind is) c.bytes_in.ensures
