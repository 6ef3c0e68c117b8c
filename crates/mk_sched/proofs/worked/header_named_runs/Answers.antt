use Rattle.mk_sched.proofs.NamedRuns.{header_named_runs}
use Rattle.mk_sched.proofs.worked.header_named_runs.Goals as goal

pub returns : goal.returns
returns c = header_named_runs
