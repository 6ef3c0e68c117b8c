use Rattle.mk_sched.proofs.Plainly.{listing_agrees}
use Rattle.mk_sched.proofs.laws.listing_agrees.Goals as goal

pub returns : goal.returns
returns c = listing_agrees
