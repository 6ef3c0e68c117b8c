use Rattle.std.proofs.Common.{◌≡◌, [], drop}
use Rattle.mk_task.specs.Tasks.{needs_from}
use Rattle.mk_task.proofs.needs.needs_of.Given as goal

-- the numbers so far, with those of the labels that are left, are all of them
abbrev pub invariant-loop-label : goal.invariant-loop-label
invariant-loop-label l = needs_from l.place l.labels l.needs.keys (drop l.label-index l.after) ≡ needs_from l.place l.labels [] l.after
