use Rattle.mk_jobs.specs.Jobs.{name_of}
use Rattle.mk_race.specs.Again.{name_in}
use Rattle.mk_race.proofs.Replanned.{AreSameBelow}
use Rattle.mk_race.proofs.again.have_same_names.Given as goal

-- the nodes so far have the same names
abbrev pub invariant-loop-i : goal.invariant-loop-i
invariant-loop-i l = AreSameBelow (name_of l.jobs) (name_in l.plan.nodes) l.first l.second l.i
