use Rattle.mk_sched.proofs.Surely.{surely}
use Rattle.mk_sched.proofs.laws.surely_stale.Goals as goal

pub returns : goal.returns
returns c = surely
