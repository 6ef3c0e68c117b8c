use Rattle.mk_sched.proofs.OneRunCases.{folders_are_no_looks}
use Rattle.mk_sched.proofs.worked.folders_are_no_looks.Goals as goal

pub returns : goal.returns
returns c = folders_are_no_looks
