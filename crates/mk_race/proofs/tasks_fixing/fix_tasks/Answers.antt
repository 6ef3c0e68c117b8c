use Rattle.mk_race.proofs.FixedTasks.{all_safe, headline_of}
use Rattle.mk_race.proofs.tasks_fixing.fix_tasks.Goals as goal

pub returns-clause-headline : goal.returns-clause-headline
returns-clause-headline c =
    headline_of c.args.root.now c.args.tasks.now c.in_ok-jobs.jobs c.fix_jobs.result c.count-count.ensures.valid c.in_ok-jobs.ensures c.fix_jobs.ensures

pub returns-clause-safe : goal.returns-clause-safe
returns-clause-safe c = all_safe c.fix_jobs.result c.in_ok-jobs.jobs c.fix_jobs.ensures
