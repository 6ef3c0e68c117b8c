use Rattle.std.proofs.Common.{List, Bool, subst}
use Rattle.mk_jobs.proofs.JobsLemmas.{clash_live}
use Rattle.mk_decide.proofs.Tracing.{ArePartsOf, parts_of_race, parts_shaped}
use Rattle.mk_decide.proofs.traces.trace_of_race.Goals as goal

pub least_path-requires-clause-first : goal.least_path-requires-clause-first
least_path-requires-clause-first g c = (clash_live c.requires.race.clash.1).first_node

pub least_path-requires-clause-second : goal.least_path-requires-clause-second
least_path-requires-clause-second g c = (clash_live c.requires.race.clash.1).second_node

pub early_nodes-requires-clause-first : goal.early_nodes-requires-clause-first
early_nodes-requires-clause-first g c = (clash_live c.requires.race.clash.1).first_node

pub early_nodes-requires-clause-second : goal.early_nodes-requires-clause-second
early_nodes-requires-clause-second g c = (clash_live c.requires.race.clash.1).second_node

pub new-requires : goal.new-requires
new-requires g c =
    let parts : ArePartsOf c.args.jobs.now c.deref.result.now c.args.first c.args.second c.in_ok-times.times.items c.in_ok-steps.steps.items =
    record { times_are = c.in_ok-times.ensures; steps_are = c.in_ok-steps.ensures } in
    parts_shaped c.args.jobs.now c.deref.result.now c.args.first c.args.second c.in_ok-path.path.items c.in_ok-times.times.items c.in_ok-steps.steps.items
    c.requires.shape c.requires.race c.in_ok-path.ensures parts

pub returns-clause-race : goal.returns-clause-race
returns-clause-race g c =
    let early = c.in_ok-early.early.items in
    let parts : ArePartsOf c.args.jobs.now early c.args.first c.args.second c.in_ok-times.times.items c.in_ok-steps.steps.items =
    subst (λ (table : List Bool). ArePartsOf c.args.jobs.now table c.args.first c.args.second c.in_ok-times.times.items c.in_ok-steps.steps.items) c.deref.ensures.value
    (record { times_are = c.in_ok-times.ensures; steps_are = c.in_ok-steps.ensures }) in
    parts_of_race c.args.jobs.now early c.args.first c.args.second c.in_ok-path.path.items c.in_ok-times.times.items c.in_ok-steps.steps.items c.new.result
    c.requires.race c.in_ok-path.ensures c.in_ok-early.ensures.reports parts c.new.ensures
