use Rattle.std.proofs.Common.{◌∙◌, ap, inl, inr, refl}
use Rattle.std.proofs.lemmas.Result.{IfOk-weaker}
use Rattle.mk_files.proofs.Reported.{err_more}
use Rattle.mk_program.specs.Answers.{base_of}
use Rattle.mk_program.proofs.Answering.{pairs, words}
use Rattle.mk_program.proofs.Builds.{is_read_from}
use Rattle.mk_program.proofs.jobs.reply_over.Goals as goal

pub returns-clause-answer : goal.returns-clause-answer
returns-clause-answer c =
    let build = c.args.args.now.build in
    let operands = ap words c.as_slice-4.ensures.value ∙ c.in_ok-operands.ensures ∙ ap words c.as_slice.ensures.value in
    IfOk-weaker c.reply_to.result _ _ (λ reply over text is.
    over _ text (is_read_from _ build (pairs c.args.includes.now) text c.as_bytes.ensures.value operands
    (c.base_of.ensures ∙ ap (base_of build) (c.as_slice-2.ensures.value ∙ is.plan.base)) (c.as_slice-3.ensures.value ∙ is.plan.makefile)
    refl is.plan.listing is.footprints) (c.as_slice-5.ensures.value ∙ is.other)) c.reply_to.ensures.answer

pub returns-clause-failure : goal.returns-clause-failure
returns-clause-failure c =
    let build = c.args.args.now.build in
    let operands = ap words c.as_slice-4.ensures.value ∙ c.in_ok-operands.ensures ∙ ap words c.as_slice.ensures.value in
    err_more _ _ c.reply_to.result (λ failure failed. elim failed [
      | inl memory ↦ inl memory
      | inr no_text ↦ inr (
        no_text.0,
        λ text is. no_text.1 _ text (is_read_from _ build (pairs c.args.includes.now) text c.as_bytes.ensures.value operands
            (c.base_of.ensures ∙ ap (base_of build) (c.as_slice-2.ensures.value ∙ is.plan.base)) (c.as_slice-3.ensures.value ∙ is.plan.makefile)
            refl is.plan.listing is.footprints) (c.as_slice-5.ensures.value ∙ is.other),
      )
    ]) c.reply_to.ensures.failure
