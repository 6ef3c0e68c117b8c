use Rattle.mk_sched.proofs.Listing.{keeps_acts}
use Rattle.mk_sched.proofs.laws.keeps_acts.Goals as goal

pub returns : goal.returns
returns c = keeps_acts
