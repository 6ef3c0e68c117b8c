use Rattle.mk_decide.proofs.Deciding.{race_holds, race_sure, safe_determinate, safe_from_one_run}
use Rattle.mk_decide.proofs.decision.decide_with.Goals as goal

pub returns-clause-determinate : goal.returns-clause-determinate
returns-clause-determinate g c = safe_determinate c.args.jobs.now c.in_ok-verdict.verdict c.count-count.ensures.shape c.in_ok-verdict.ensures.answer

pub returns-clause-from_one_run : goal.returns-clause-from_one_run
returns-clause-from_one_run g c = safe_from_one_run c.args.jobs.now c.in_ok-verdict.verdict c.count-count.ensures.shape c.in_ok-verdict.ensures.answer

pub returns-clause-holds : goal.returns-clause-holds
returns-clause-holds g c = race_holds c.args.jobs.now c.in_ok-verdict.verdict c.count-count.ensures.shape c.in_ok-verdict.ensures.answer

pub returns-clause-sure : goal.returns-clause-sure
returns-clause-sure g c = race_sure c.args.jobs.now c.in_ok-verdict.verdict c.count-count.ensures.shape c.in_ok-verdict.ensures.answer

pub returns-clause-few : goal.returns-clause-few
returns-clause-few g c = record { pairs = c.in_ok-pairs.pairs.items; all = c.in_ok-pairs.ensures.pairs; few = c.in_ok-pairs.ensures.few }
