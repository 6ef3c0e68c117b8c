use Rattle.mk_race.proofs.Listed.{store_agrees}
use Rattle.mk_race.proofs.laws.store_agrees.Goals as goal

pub returns : goal.returns
returns c = store_agrees
