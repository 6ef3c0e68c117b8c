use Rattle.mk_program.proofs.BuildAnswers.{verify_over}
use Rattle.mk_program.proofs.verifying.VerifyingQuestion.answer.Goals as goal

pub returns-clause-answer : goal.returns-clause-answer
returns-clause-answer c = λ texts footprints is.
    verify_over texts footprints c.args.prepared c.in_ok-verdict_of.field-0.status c.in_ok-verdict_of.field-0.text.items is
    c.args.self.now.short c.args.proof.now c.in_ok-verdict_of.ensures.answer
