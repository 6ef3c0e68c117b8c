use Rattle.std.proofs.Common.{◌≡◌, ◌<◌, ℕ, true}
use Rattle.mk_sched.specs.Standing.{state_of}
use Rattle.mk_sched.proofs.replay.is_complete.Given as goal

-- the nodes so far have passed
abbrev pub invariant-loop-stage : goal.invariant-loop-stage
invariant-loop-stage l = (n : ℕ) → n < l.stage-index → (state_of l.state.store l.state.stages.items).passed n ≡ true
