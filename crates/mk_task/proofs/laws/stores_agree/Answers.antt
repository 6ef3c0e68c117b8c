use Rattle.mk_task.proofs.Starting.{stores_agree}
use Rattle.mk_task.proofs.laws.stores_agree.Goals as goal

pub returns : goal.returns
returns c = stores_agree
