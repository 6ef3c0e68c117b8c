use Rattle.std.proofs.Common.{take, drop}
use Rattle.mk_cert.specs.Standing.{time_in}
use Rattle.mk_cert.specs.Traces.{past_of}
use Rattle.mk_cert.proofs.Walking.{IsAt}
use Rattle.mk_cert.proofs.walk.all_pass.Given as goal

abbrev pub invariant-loop-step : goal.invariant-loop-step
invariant-loop-step l =
    IsAt l.jobs (time_in l.times) l.first l.second (past_of (take l.step-index l.steps)) l.steps (drop l.step-index l.steps)
    l.standing.stages.items l.standing.running
