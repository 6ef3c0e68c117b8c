use Rattle.mk_sched.proofs.OneRun.{own_file}
use Rattle.mk_sched.proofs.laws.own_file.Goals as goal

pub returns : goal.returns
returns c = own_file
