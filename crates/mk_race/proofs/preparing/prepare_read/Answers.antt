use Rattle.mk_race.proofs.NotedAhead.{halts_prepared}
use Rattle.mk_race.proofs.preparing.prepare_read.Goals as goal

pub returns-in-Ok : goal.returns-in-Ok
returns-in-Ok c = λ texts lines from. (c.in-Ok.ensures.answer texts lines from).0

pub returns-in-Err : goal.returns-in-Err
returns-in-Err c = λ texts lines from. halts_prepared texts lines c.in-Err.halt (c.in-Err.ensures.answer texts lines from)
