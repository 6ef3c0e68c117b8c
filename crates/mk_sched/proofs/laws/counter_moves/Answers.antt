use Rattle.mk_sched.proofs.Moving.{counter_moves}
use Rattle.mk_sched.proofs.laws.counter_moves.Goals as goal

pub returns : goal.returns
returns c = counter_moves
