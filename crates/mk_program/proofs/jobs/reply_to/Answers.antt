use Rattle.mk_program.specs.Answers.{HasNoText, IsCheckAnswer, IsFixAnswer, IsListAnswer, IsMissingAnswer, IsReplayAnswer, IsSerialiseAnswer, IsVerifyAnswer}
use Rattle.mk_program.proofs.Builds.{no_text_of, own_answer, own_reply}
use Rattle.mk_program.proofs.jobs.reply_to.Goals as goal

pub returns-in-Check-clause-answer : goal.returns-in-Check-clause-answer
returns-in-Check-clause-answer c =
    let args = c.args.args.now in
    own_answer c.args.build args.question _ c.in-Check.is args.strict c.args.other.now c.noted_reply.result
    (λ texts lines other. IsCheckAnswer c.in-Check.short texts lines c.in-Check.print_proof) (λ texts text status answer note said. said) c.noted_reply.ensures.answer

pub returns-in-Check-clause-failure : goal.returns-in-Check-clause-failure
returns-in-Check-clause-failure c =
    let args = c.args.args.now in
    no_text_of c.args.build args.question _ c.in-Check.is args.strict c.args.other.now c.noted_reply.result
    (λ texts lines other. ⊥) (λ texts text no_text. absurd no_text) c.noted_reply.ensures.failure

pub returns-in-Verify-clause-answer : goal.returns-in-Verify-clause-answer
returns-in-Verify-clause-answer c =
    let args = c.args.args.now in
    own_answer c.args.build args.question _ c.in-Verify.is args.strict c.args.other.now c.noted_reply-in-Verify.result
    (λ texts lines other. IsVerifyAnswer c.in-Verify.short texts lines other) (λ texts text status answer note said. said) c.noted_reply-in-Verify.ensures.answer

pub returns-in-Verify-clause-failure : goal.returns-in-Verify-clause-failure
returns-in-Verify-clause-failure c =
    let args = c.args.args.now in
    no_text_of c.args.build args.question _ c.in-Verify.is args.strict c.args.other.now c.noted_reply-in-Verify.result
    (λ texts lines other. ⊥) (λ texts text no_text. absurd no_text) c.noted_reply-in-Verify.ensures.failure

pub returns-in-Replay-clause-answer : goal.returns-in-Replay-clause-answer
returns-in-Replay-clause-answer c =
    let args = c.args.args.now in
    own_answer c.args.build args.question _ c.in-Replay.is args.strict c.args.other.now c.noted_reply-in-Replay.result
    (λ texts lines other. IsReplayAnswer texts lines other c.in-Replay.log.limit c.in-Replay.log.tie) (λ texts text status answer note said. said)
    c.noted_reply-in-Replay.ensures.answer

pub returns-in-Replay-clause-failure : goal.returns-in-Replay-clause-failure
returns-in-Replay-clause-failure c =
    let args = c.args.args.now in
    no_text_of c.args.build args.question _ c.in-Replay.is args.strict c.args.other.now c.noted_reply-in-Replay.result
    (λ texts lines other. ⊥) (λ texts text no_text. absurd no_text) c.noted_reply-in-Replay.ensures.failure

pub returns-in-Serialise-clause-answer : goal.returns-in-Serialise-clause-answer
returns-in-Serialise-clause-answer c =
    let args = c.args.args.now in
    own_answer c.args.build args.question _ c.in-Serialise.is args.strict c.args.other.now c.noted_reply-in-Serialise.result
    (λ texts lines other. IsSerialiseAnswer texts lines other c.in-Serialise.log.limit c.in-Serialise.log.tie) (λ texts text status answer note said. said)
    c.noted_reply-in-Serialise.ensures.answer

pub returns-in-Serialise-clause-failure : goal.returns-in-Serialise-clause-failure
returns-in-Serialise-clause-failure c =
    let args = c.args.args.now in
    no_text_of c.args.build args.question _ c.in-Serialise.is args.strict c.args.other.now c.noted_reply-in-Serialise.result
    (λ texts lines other. HasNoText texts lines other c.in-Serialise.log.limit c.in-Serialise.log.tie) (λ texts text no_text. no_text)
    c.noted_reply-in-Serialise.ensures.failure

pub returns-in-List-clause-answer : goal.returns-in-List-clause-answer
returns-in-List-clause-answer c =
    let args = c.args.args.now in
    own_answer c.args.build args.question _ c.in-List.is args.strict c.args.other.now c.noted_reply-in-List.result
    (λ texts lines other. IsListAnswer texts lines) (λ texts text status answer note said. said) c.noted_reply-in-List.ensures.answer

pub returns-in-List-clause-failure : goal.returns-in-List-clause-failure
returns-in-List-clause-failure c =
    let args = c.args.args.now in
    no_text_of c.args.build args.question _ c.in-List.is args.strict c.args.other.now c.noted_reply-in-List.result
    (λ texts lines other. ⊥) (λ texts text no_text. absurd no_text) c.noted_reply-in-List.ensures.failure

pub returns-in_ok-fix_reply-in-Fix-clause-answer : goal.returns-in_ok-fix_reply-in-Fix-clause-answer
returns-in_ok-fix_reply-in-Fix-clause-answer c =
    let args = c.args.args.now in
    own_reply c.args.build args.question _ c.in-Fix.is args.strict c.args.other.now
    (λ texts lines other. IsFixAnswer texts lines c.in-Fix.print_proof) (λ texts text status answer note said. said)
    c.in_ok-fix_reply-in-Fix.field-0 c.in_ok-fix_reply-in-Fix.ensures.answer

pub returns-in_ok-missing_reply-in-Missing-clause-answer : goal.returns-in_ok-missing_reply-in-Missing-clause-answer
returns-in_ok-missing_reply-in-Missing-clause-answer c =
    let args = c.args.args.now in
    own_reply c.args.build args.question _ c.in-Missing.is args.strict c.args.other.now
    (λ texts lines other. IsMissingAnswer texts lines) (λ texts text status answer note said. said)
    c.in_ok-missing_reply-in-Missing.field-0 c.in_ok-missing_reply-in-Missing.ensures.answer
