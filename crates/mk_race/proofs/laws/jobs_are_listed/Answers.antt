use Rattle.mk_race.proofs.Listed.{jobs_are_listed}
use Rattle.mk_race.proofs.laws.jobs_are_listed.Goals as goal

pub returns : goal.returns
returns c = jobs_are_listed
