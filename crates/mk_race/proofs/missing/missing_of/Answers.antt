use Rattle.mk_race.proofs.AsClean.{leaves_as_clean, one_of_none}
use Rattle.mk_race.proofs.missing.missing_of.Goals as goal

pub returns-clause-headline : goal.returns-clause-headline
returns-clause-headline c = λ empty.
    leaves_as_clean c.args.prepared.jobs c.args.prepared.listing c.in_ok-found.found.races.items
    c.count-count.ensures.shape c.in_ok-found.ensures.0 empty.races (c.in_ok-violations.ensures.declared.0 empty.violations).0

pub returns-clause-from_one_run : goal.returns-clause-from_one_run
returns-clause-from_one_run c = λ empty.
    one_of_none c.args.prepared.jobs c.in_ok-found.found.races.items c.count-count.ensures.shape c.in_ok-found.ensures.0 empty.races
