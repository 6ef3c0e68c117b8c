use Rattle.mk_sched.proofs.Determinate.{headline}
use Rattle.mk_sched.proofs.laws.headline.Goals as goal

pub returns : goal.returns
returns c = headline
