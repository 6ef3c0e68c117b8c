use Rattle.std.proofs.Common.{Ok, refl}
use Rattle.mk_race.proofs.NotedAhead.{not_found}
use Rattle.mk_race.proofs.unused.noted_on.Goals as goal

pub returns-in-Ok : goal.returns-in-Ok
returns-in-Ok c = (Ok (c.in-Ok.jobs, c.in-Ok.unused), c.in-Ok.ensures, refl)

pub returns-in-Err : goal.returns-in-Err
returns-in-Err c = not_found c.args.planned c.args.footprints c.in-Err.halt c.in-Err.ensures
