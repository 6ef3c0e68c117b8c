use Rattle.mk_index.proofs.Searching.{placed_ok, placed_err}
use Rattle.mk_index.proofs.index.place_of.Goals as goal

pub returns-in-Ok-clause-rest : goal.returns-in-Ok-clause-rest
returns-in-Ok-clause-rest c = (placed_ok c.args.numbers.now c.args.n c.in-Ok.place c.in-Ok.ensures.position c.requires).1

pub returns-in-Err-clause-rest : goal.returns-in-Err-clause-rest
returns-in-Err-clause-rest c = (placed_err c.args.numbers.now c.args.n c.in-Err.place c.in-Err.ensures.position c.requires).1

pub returns-in-Ok-clause-below : goal.returns-in-Ok-clause-below
returns-in-Ok-clause-below c = (placed_ok c.args.numbers.now c.args.n c.in-Ok.place c.in-Ok.ensures.position c.requires).0

pub returns-in-Err-clause-below : goal.returns-in-Err-clause-below
returns-in-Err-clause-below c = (placed_err c.args.numbers.now c.args.n c.in-Err.place c.in-Err.ensures.position c.requires).0
