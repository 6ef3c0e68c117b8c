use Rattle.mk_sched.proofs.ByTable.{may_is_table}
use Rattle.mk_sched.proofs.laws.may_is_table.Goals as goal

pub returns : goal.returns
returns c = may_is_table
