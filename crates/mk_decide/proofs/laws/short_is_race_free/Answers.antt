use Rattle.mk_decide.proofs.Between.{short_is_race_free}
use Rattle.mk_decide.proofs.laws.short_is_race_free.Goals as goal

pub returns : goal.returns
returns c = short_is_race_free
