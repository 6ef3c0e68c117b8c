use Rattle.mk_fix.proofs.Cleaning.{clean_run}
use Rattle.mk_fix.proofs.laws.clean_runs_stay.Goals as goal

pub returns : goal.returns
returns c = λ jobs edges tie limit opening past valid rising clean agrees. clean_run jobs edges tie limit opening valid rising clean agrees past
