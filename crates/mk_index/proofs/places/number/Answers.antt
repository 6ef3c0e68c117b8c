use Rattle.mk_path.proofs.Numbering.{found_is, not_missed}
use Rattle.mk_index.proofs.places.number.Goals as goal

pub returns-in-Ok-clause-is : goal.returns-in-Ok-clause-is
returns-in-Ok-clause-is c = found_is c.args.paths.now c.args.path c.in-Ok.place c.in-Ok.ensures.bound (c.in-Ok.ensures.ok c.args.path)

pub returns-in-Err-clause-is : goal.returns-in-Err-clause-is
returns-in-Err-clause-is c = absurd (not_missed c.args.paths.now c.args.path _ c.requires.rise c.in-Err.ensures.bound c.in-Err.ensures.position c.requires.there)
