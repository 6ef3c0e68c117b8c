use Rattle.std.proofs.Common.{◌-◌}
use Rattle.mk_race.proofs.BadOperands.{fault_of_all, good_to_the_left}
use Rattle.mk_race.proofs.GoalsLemmas.{Halts-along, fault_to_the_left}
use Rattle.mk_race.proofs.settings.first_halt.Goals as goal

pub goals_among-requires : goal.goals_among-requires
goals_among-requires c = good_to_the_left c.args.operands.now c.args.fault c.place.result c.requires c.place.ensures

pub returns-in-Ok : goal.returns-in-Ok
returns-in-Ok c =
    fault_of_all c.args.operands.now c.args.fault c.place.result c.requires c.place.ensures c.args.root.now c.in-Ok._goals.items c.in-Ok.ensures.names

pub returns-in-Err : goal.returns-in-Err
returns-in-Err c =
    Halts-along c.in-Err.halt _ _ (fault_to_the_left c.args.root.now c.args.operands.now (c.place.result - 1)) c.in-Err.ensures.fault
