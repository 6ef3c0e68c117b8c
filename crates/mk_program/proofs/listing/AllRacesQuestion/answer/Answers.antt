use Rattle.mk_program.proofs.BuildAnswers.{list_over}
use Rattle.mk_program.proofs.listing.AllRacesQuestion.answer.Goals as goal

pub returns-clause-answer : goal.returns-clause-answer
returns-clause-answer c = λ texts footprints is.
    list_over texts footprints c.args.prepared c.in_ok-list_over.field-0.status c.in_ok-list_over.field-0.text.items is c.in_ok-list_over.ensures.answer
