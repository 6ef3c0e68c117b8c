use Rattle.std.proofs.Common.{◌≡◌, ◌≤◌, false, get_or}
use Rattle.mk_jobs.specs.Jobs.{node_count}
use Rattle.mk_cert.specs.Races.{early_steps}
use Rattle.mk_decide.proofs.traces.steps_of.Given as goal

-- the early nodes so far have passed
abbrev pub invariant-loop-n : goal.invariant-loop-n
invariant-loop-n l = record {
  within : l.n ≤ node_count l.jobs;
  steps : l.steps.items ≡ early_steps l.jobs (λ n. get_or l.early n false) l.n;
}
