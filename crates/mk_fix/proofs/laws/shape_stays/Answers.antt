use Rattle.mk_fix.proofs.Adding.{shape_stays}
use Rattle.mk_fix.proofs.laws.shape_stays.Goals as goal

pub returns : goal.returns
returns c = λ jobs edges shape rising few. shape_stays jobs edges rising shape few
