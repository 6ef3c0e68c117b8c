use Rattle.mk_race.proofs.BadOperands.{all_good}
use Rattle.mk_race.proofs.settings.Operands.read.Goals as goal

pub goals_among-requires : goal.goals_among-requires
goals_among-requires c = all_good c.args.operands.now _ c.in-Ok.ensures
