use Rattle.std.proofs.lemmas.Result.{IfOk-weaker}
use Rattle.mk_program.specs.Answers.{NoScheduleOfJobsShows}
use Rattle.mk_race.specs.Judged.{IsDecided}
use Rattle.mk_program.proofs.Judged.{judged_ends, judged_is}
use Rattle.mk_program.proofs.checking.judged_of.Goals as goal

pub returns-clause-status : goal.returns-clause-status
returns-clause-status c =
    IfOk-weaker c.judged_answer.result _ _ (λ answer h. judged_ends c.in_ok-judged.judged answer.status h.0) c.judged_answer.ensures

pub returns-clause-answer : goal.returns-clause-answer
returns-clause-answer c =
    let judged = c.in_ok-judged.ensures in
    IfOk-weaker c.judged_answer.result _ _ (λ answer h. judged_is (IsDecided c.args.short c.args.jobs) (NoScheduleOfJobsShows c.args.jobs) c.in_ok-judged.judged c.args.proof
    answer.status answer.text.items judged.answer (λ safe. (judged.headline safe, judged.of_tasks safe)) judged.holds h.0 h.1) c.judged_answer.ensures
