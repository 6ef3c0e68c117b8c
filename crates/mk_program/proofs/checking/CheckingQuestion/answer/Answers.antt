use Rattle.mk_program.proofs.BuildAnswers.{check_over}
use Rattle.mk_program.proofs.checking.CheckingQuestion.answer.Goals as goal

pub returns-clause-answer : goal.returns-clause-answer
returns-clause-answer c = λ texts footprints is.
    check_over texts footprints c.args.prepared c.in_ok-judged_of.field-0.status c.in_ok-judged_of.field-0.text.items is
    c.args.self.now.short c.args.self.now.print_proof c.in_ok-judged_of.ensures.answer
