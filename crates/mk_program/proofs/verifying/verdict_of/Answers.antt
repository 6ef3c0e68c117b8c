use Rattle.std.proofs.lemmas.Result.{IfOk-weaker}
use Rattle.mk_race.specs.Verified.{IsVerifiedOn}
use Rattle.mk_program.specs.Answers.{ProofOfJobsShows}
use Rattle.mk_program.proofs.Answering.{refusal_not_failed, unverified_is, verdict_is}
use Rattle.mk_program.proofs.verifying.verdict_of.Goals as goal

pub returns-in-Err-clause-status : goal.returns-in-Err-clause-status
returns-in-Err-clause-status c = IfOk-weaker c.refused.result _ _ (λ answer h. refusal_not_failed answer.status h.2) c.refused.ensures

pub returns-in-Err-clause-answer : goal.returns-in-Err-clause-answer
returns-in-Err-clause-answer c =
    IfOk-weaker c.refused.result _ _ (λ answer h. unverified_is (IsVerifiedOn c.args.short c.args.jobs.now c.args.proof.now) (ProofOfJobsShows c.args.jobs.now c.args.proof.now) c.in-Err.halt h.0 _ _ c.in-Err.ensures.answer
    h.1 h.2 h.3) c.refused.ensures

pub returns-in-Ok-clause-answer : goal.returns-in-Ok-clause-answer
returns-in-Ok-clause-answer c =
    let verified = c.in-Ok.ensures in
    IfOk-weaker c.verdict_answer.result _ _ (λ answer h. verdict_is (IsVerifiedOn c.args.short c.args.jobs.now c.args.proof.now) (ProofOfJobsShows c.args.jobs.now c.args.proof.now) c.in-Ok.accepted _ _ verified.answer
    (λ accepted. (verified.shows accepted, verified.of_tasks accepted)) h.0 h.1) c.verdict_answer.ensures
