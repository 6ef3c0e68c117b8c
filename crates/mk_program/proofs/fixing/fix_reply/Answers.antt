use Rattle.std.proofs.Common.{refl}
use Rattle.std.proofs.lemmas.Result.{IfOk-weaker}
use Rattle.mk_program.specs.Answers.{IsFixAnswer}
use Rattle.mk_program.proofs.Noted.{fault_noted, noting_is, read_again}
use Rattle.mk_program.proofs.fixing.fix_reply.Goals as goal

pub returns-in_ok-answer-in-Ok-clause-answer : goal.returns-in_ok-answer-in-Ok-clause-answer
returns-in_ok-answer-in-Ok-clause-answer c =
    let build = c.args.build in
    let noted = c.in-Ok.noted in
    let fixing = c.fix_build-fixing in
    noting_is (λ texts lines. IsFixAnswer texts lines c.args.print_proof) build c.args.strict noted c.in_ok-answer-in-Ok.answer c.with_note.result
    c.in-Ok.ensures.answer
    (λ texts lines from.
    let again = read_again texts build lines noted.prepared c.in_ok-again.again _ c.in-Ok.ensures.read c.in_ok-again.ensures c.in-Some.is from in
    let prepared = c.in-Ok.ensures.prepared texts lines from in
    c.in_ok-answer-in-Ok.ensures.answer texts lines (fixing.ensures.answer texts lines again noted.prepared prepared refl)
    (IfOk-weaker fixing.result _ _ (λ fixed holds. holds texts lines again noted.prepared prepared refl) fixing.ensures.headline))
    c.with_note.ensures.answer c.with_note.ensures.note

pub returns-in-Err-clause-answer : goal.returns-in-Err-clause-answer
returns-in-Err-clause-answer c = IfOk-weaker c.refused_reply.result _ _ (λ reply h texts lines from.
    fault_noted (IsFixAnswer texts lines c.args.print_proof) c.args.strict texts lines c.in-Err.halt h.0 _ _ _
    (c.in-Err.ensures.answer texts lines from) h.1 h.2 h.3 h.4) c.refused_reply.ensures
