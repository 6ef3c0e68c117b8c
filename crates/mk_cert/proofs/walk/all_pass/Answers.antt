use Rattle.std.proofs.Common.{◌≡◌, ◌<◌, ◌+◌, ◌∙◌, ◌&&◌, List, ◌∷◌, arith, ap, sym, subst, length, get_or, take, drop}
use Rattle.std.proofs.lemmas.List.{drop_all, get_or_default}
use Rattle.mk_proof.specs.declared.step.Step.TheVariants.{Skip}
use Rattle.mk_jobs.specs.Jobs.{node_count}
use Rattle.mk_sched.specs.Events.{Event, is_running, running_below}
use Rattle.mk_cert.specs.Standing.{phases_of, time_in}
use Rattle.mk_cert.specs.Traces.{event_of, past_of}
use Rattle.mk_cert.proofs.Walking.{IsAt, begun, by_stages, ends, moving, next, past_more, rest_less, room}
use Rattle.mk_cert.proofs.walk.all_pass.Goals as goal
use Rattle.mk_cert.proofs.walk.all_pass.Goals.{then-runs, else-runs}

pub loop-step-init : goal.loop-step-init
loop-step-init c =
    begun c.args.jobs.now (time_in c.args.times.now) c.args.first c.args.second c.args.steps.now c.in_ok-standing.standing.stages.items c.in_ok-standing.standing.running
    (c.in_ok-standing.ensures.long ∙ c.count.ensures.count) c.in_ok-standing.ensures.waiting c.in_ok-standing.ensures.none
    (omega (arith, c.count.ensures.few, c.count.ensures.count))

pub passes-requires : goal.passes-requires
passes-requires c =
    by_stages c.args.jobs.now (time_in c.args.times.now) c.args.first c.args.second (past_of (take c.loop-step.step-index c.args.steps.now)) c.args.steps.now
    (drop c.loop-step.step-index c.args.steps.now) c.loop-step.standing.stages.items c.loop-step.standing.running c.loop-step.invariant

pub make-requires-clause-moves : goal.make-requires-clause-moves
make-requires-clause-moves c =
    let past = past_of (take c.loop-step.step-index c.args.steps.now) in
    let rest = drop c.loop-step.step-index c.args.steps.now in
    let step = get_or c.args.steps.now c.loop-step.step-index (Skip 0) in (
      running_below (event_of step ∷ past) (node_count c.args.jobs.now),
      moving c.args.jobs.now (time_in c.args.times.now) c.args.first c.args.second past c.args.steps.now rest c.loop-step.standing.stages.items c.loop-step.standing.running
          c.loop-step.invariant step c.passes.result c.passes.ensures c.if-not-passes.false,
      room c.args.jobs.now (time_in c.args.times.now) c.args.first c.args.second past c.args.steps.now rest c.loop-step.standing.stages.items c.loop-step.standing.running
          c.loop-step.invariant step c.passes.result c.passes.ensures c.if-not-passes.false,
    )

pub loop-step-preserved : goal.loop-step-preserved
loop-step-preserved c =
    let i = c.loop-step.step-index in
    let steps = c.args.steps.now in
    let past = past_of (take i steps) in
    let step = get_or steps i (Skip 0) in
    let inside : i < length steps = c.loop-step-test.true in
    let is : step ≡ get_or steps i step = get_or_default steps i (Skip 0) step inside in
    subst (λ (p : List Event). IsAt c.args.jobs.now (time_in c.args.times.now) c.args.first c.args.second p steps (drop (i + 1) steps) c.make.new.self.stages.items c.make.new.self.running)
    (sym (past_more steps i step inside is))
    (next c.args.jobs.now (time_in c.args.times.now) c.args.first c.args.second past steps (drop i steps) c.loop-step.standing.stages.items c.loop-step.standing.running
    c.loop-step.invariant step c.passes.result c.passes.ensures c.if-not-passes.false (drop (i + 1) steps) c.make.new.self.stages.items c.make.new.self.running
    (rest_less steps i step inside is) c.make.ensures.phases c.make.ensures.long c.make.ensures.moves)

pub returns : goal.returns
returns c =
    let steps = c.args.steps.now in
    let i = c.loop-step.step-index in
    let stages = c.loop-step.standing.stages.items in
    let end = ends c.args.jobs.now (time_in c.args.times.now) c.args.first c.args.second (past_of (take i steps)) steps (drop i steps) stages c.loop-step.standing.running
    c.loop-step.invariant (drop_all i steps c.loop-step-test.false) in
    elim c.if-runs.branch [
      | then-runs w ↦ w.result-is ∙ w.runs-then-runs.ensures
          ∙ ap (λ b. b && is_running (phases_of stages c.args.second)) (sym w.if-runs.true ∙ c.runs.ensures) ∙ end
      | else-runs w ↦ w.result-is ∙ w.if-runs.false
          ∙ ap (λ b. b && is_running (phases_of stages c.args.second)) (sym w.if-runs.false ∙ c.runs.ensures) ∙ end
    ]
