use Rattle.mk_cert.proofs.Followed.{runs}
use Rattle.mk_cert.proofs.laws.holds_for_a_run.Goals as goal

pub returns : goal.returns
returns c = runs
