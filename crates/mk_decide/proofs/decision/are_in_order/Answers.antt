use Rattle.mk_decide.proofs.Deciding.{free_if_none, race_if_some}
use Rattle.mk_decide.proofs.decision.are_in_order.Goals as goal

pub returns-clause-free : goal.returns-clause-free
returns-clause-free c =
    free_if_none c.args.jobs.now c.args.pairs.now c.first_race-race.result c.is_none.result c.requires c.first_race-race.ensures.none c.first_race-race.ensures.some
    c.is_none.ensures

pub returns-clause-race : goal.returns-clause-race
returns-clause-race c = race_if_some c.args.jobs.now c.first_race-race.result c.is_none.result c.first_race-race.ensures.some c.is_none.ensures
