use Rattle.mk_sched.proofs.ByTable.{runs_by_table}
use Rattle.mk_sched.proofs.laws.runs_by_table.Goals as goal

pub returns : goal.returns
returns c = runs_by_table
