use Rattle.mk_sched.proofs.Listing.{controls_report}
use Rattle.mk_sched.proofs.laws.controls_report.Goals as goal

pub returns : goal.returns
returns c = controls_report
