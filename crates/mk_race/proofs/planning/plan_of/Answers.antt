use Rattle.mk_race.proofs.Ahead.{build_planned}
use Rattle.mk_race.proofs.planning.plan_of.Goals as goal

pub returns : goal.returns
returns c = build_planned c.args.input.now c.args.listing c.plan_read.result c.plan_read.ensures
