use Rattle.std.proofs.Common.{◌≡◌, not, drop}
use Rattle.std.specs.List.{list_any}
use Rattle.mk_sched.specs.Standing.{state_of}
use Rattle.mk_sched.proofs.judge.lacks.Given as goal

-- one of all has not passed where one of those that are left has not
abbrev pub invariant-loop-node : goal.invariant-loop-node
invariant-loop-node l =
    list_any (λ p. not ((state_of l.state.store l.state.stages.items).passed p)) l.nodes
    ≡ list_any (λ p. not ((state_of l.state.store l.state.stages.items).passed p)) (drop l.node-index l.nodes)
