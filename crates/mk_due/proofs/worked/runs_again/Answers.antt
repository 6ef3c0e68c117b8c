use Rattle.mk_due.proofs.RanAgain.{run_again}
use Rattle.mk_due.proofs.worked.runs_again.Goals as goal

pub returns : goal.returns
returns c = run_again
