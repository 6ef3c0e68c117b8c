use Rattle.mk_race.proofs.AsClean.{tasks_as_clean}
use Rattle.mk_race.proofs.tasks_missing.list_missing_tasks.Goals as goal

pub returns-clause-headline : goal.returns-clause-headline
returns-clause-headline c =
    tasks_as_clean c.args.root.now c.args.listing.now c.args.tasks.now c.in_ok-prepared.prepared c.missing_of.result c.in_ok-prepared.ensures c.missing_of.ensures.headline c.missing_of.ensures.from_one_run
