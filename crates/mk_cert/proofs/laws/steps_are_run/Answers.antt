use Rattle.mk_cert.proofs.Followed.{are_run}
use Rattle.mk_cert.proofs.laws.steps_are_run.Goals as goal

pub returns : goal.returns
returns c = are_run
