use Rattle.mk_jobs.proofs.JobsLemmas.{shape_valid}
use Rattle.mk_sched.proofs.Staying.{from_one_run}
use Rattle.mk_decide.proofs.decision.is_race_free.Goals as goal

pub returns-clause-from_one_run : goal.returns-clause-from_one_run
returns-clause-from_one_run c = λ free. from_one_run c.args.jobs.now (shape_valid c.count-count.ensures.shape) (c.in_ok-free.ensures.free.0 free)

pub returns-clause-few : goal.returns-clause-few
returns-clause-few c = record { pairs = c.in_ok-pairs.pairs.items; all = c.in_ok-pairs.ensures.pairs; few = c.in_ok-pairs.ensures.few }
