use Rattle.std.proofs.lemmas.Result.{IfOk-weaker}
use Rattle.mk_race.specs.Listed.{IsListedOf}
use Rattle.mk_program.specs.Answers.{NoScheduleOfJobsShows}
use Rattle.mk_program.proofs.Answering.{refusal_not_failed}
use Rattle.mk_program.proofs.RaceLists.{listed_is, races_not_failed, unlisted_is}
use Rattle.mk_program.proofs.listing.list_over.Goals as goal

pub returns-in-Ok-clause-status : goal.returns-in-Ok-clause-status
returns-in-Ok-clause-status c = IfOk-weaker c.races_answer.result _ _ (λ answer h. races_not_failed c.in-Ok.listed.found.races.items answer.status h.0) c.races_answer.ensures

pub returns-in-Ok-clause-answer : goal.returns-in-Ok-clause-answer
returns-in-Ok-clause-answer c =
    let listed = c.in-Ok.ensures in
    IfOk-weaker c.races_answer.result _ _ (λ answer h. listed_is (IsListedOf c.args.jobs) (NoScheduleOfJobsShows c.args.jobs) c.in-Ok.listed _ _ listed.races
    (λ none. (listed.headline none, listed.of_tasks none)) h.0 h.1) c.races_answer.ensures

pub returns-in-Err-clause-status : goal.returns-in-Err-clause-status
returns-in-Err-clause-status c = IfOk-weaker c.refused.result _ _ (λ answer h. refusal_not_failed answer.status h.2) c.refused.ensures

pub returns-in-Err-clause-answer : goal.returns-in-Err-clause-answer
returns-in-Err-clause-answer c =
    IfOk-weaker c.refused.result _ _ (λ answer h. unlisted_is (IsListedOf c.args.jobs) (NoScheduleOfJobsShows c.args.jobs) c.in-Err.halt h.0 _ _ c.in-Err.ensures.races
    h.1 h.2 h.3) c.refused.ensures
