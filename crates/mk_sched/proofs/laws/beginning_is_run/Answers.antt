use Rattle.mk_sched.proofs.ByTable.{beginning_is_run}
use Rattle.mk_sched.proofs.laws.beginning_is_run.Goals as goal

pub returns : goal.returns
returns c = beginning_is_run
