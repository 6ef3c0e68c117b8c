use Rattle.mk_graph.proofs.PlannedOnce.{planned_once}
use Rattle.mk_graph.proofs.laws.plans_are_made_once.Goals as goal

pub returns : goal.returns
returns c = planned_once
