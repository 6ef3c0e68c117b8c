use Rattle.mk_sched.proofs.Listing.{puts_in_turn}
use Rattle.mk_sched.proofs.laws.puts_in_turn.Goals as goal

pub returns : goal.returns
returns c = puts_in_turn
