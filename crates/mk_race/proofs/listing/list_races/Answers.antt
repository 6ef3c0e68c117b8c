use Rattle.mk_race.proofs.Alike.{no_build_shows}
use Rattle.mk_race.proofs.AsClean.{one_of_none}
use Rattle.mk_race.proofs.OfTasks.{no_tasks_show}
use Rattle.mk_race.proofs.listing.list_races.Goals as goal

pub returns-clause-headline : goal.returns-clause-headline
returns-clause-headline c = λ none.
    no_build_shows c.args.jobs (one_of_none c.args.jobs c.in_ok-found.found.races.items c.count-count.ensures.shape c.in_ok-found.ensures.0 none)

pub returns-clause-of_tasks : goal.returns-clause-of_tasks
returns-clause-of_tasks c = λ none.
    no_tasks_show c.args.jobs (one_of_none c.args.jobs c.in_ok-found.found.races.items c.count-count.ensures.shape c.in_ok-found.ensures.0 none)
