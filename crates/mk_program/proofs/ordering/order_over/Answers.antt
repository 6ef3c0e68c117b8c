use Rattle.std.proofs.Common.{◌∙◌, ap, refl}
use Rattle.std.proofs.lemmas.Result.{IfOk-weaker}
use Rattle.mk_request.specs.declared.inputs.InputFile.TheVariants as inputs
use Rattle.mk_program.specs.Answers.{base_of, texts_for}
use Rattle.mk_program.proofs.Answering.{listed_from, not_failed, pairs, parts_are, plan_is, refusal_not_failed, unplanned_is, words}
use Rattle.mk_program.proofs.ordering.order_over.Goals as goal

pub returns-in-Ok-clause-status : goal.returns-in-Ok-clause-status
returns-in-Ok-clause-status c = IfOk-weaker c.plan_answer.result _ _ (λ answer h. not_failed answer.status h.0) c.plan_answer.ensures

pub returns-in-Ok-clause-answer : goal.returns-in-Ok-clause-answer
returns-in-Ok-clause-answer c =
    let build = c.args.build.now in
    let operands = ap words c.as_slice-2.ensures.value ∙ c.in_ok-operands.ensures ∙ ap words c.as_slice.ensures.value in
    IfOk-weaker c.plan_answer.result _ _ (λ answer h text is.
    plan_is (texts_for build (pairs c.args.includes.now) text) c.in-Ok.planned _ _
    (c.in-Ok.ensures (texts_for build (pairs c.args.includes.now) text)
    (parts_are _ _ _ _ _ _ _ _ _ _ (text inputs.Listing) c.as_bytes.ensures.value operands (c.base_of.ensures ∙ ap (base_of build) (c.as_slice-3.ensures.value ∙ is.base))
    (c.as_slice-4.ensures.value ∙ is.makefile) refl)
    (listed_from build (pairs c.args.includes.now) text _ is.listing)) h.0 h.1) c.plan_answer.ensures

pub returns-clause-status : goal.returns-clause-status
returns-clause-status c = IfOk-weaker c.refused.result _ _ (λ answer h. refusal_not_failed answer.status h.2) c.refused.ensures

pub returns-clause-answer : goal.returns-clause-answer
returns-clause-answer c =
    let build = c.args.build.now in
    let operands = ap words c.as_slice-2.ensures.value ∙ c.in_ok-operands.ensures ∙ ap words c.as_slice.ensures.value in
    IfOk-weaker c.refused.result _ _ (λ answer h text is.
    unplanned_is (texts_for build (pairs c.args.includes.now) text) c.in-Err.halt h.0 _ _
    (c.in-Err.ensures (texts_for build (pairs c.args.includes.now) text)
    (parts_are _ _ _ _ _ _ _ _ _ _ (text inputs.Listing) c.as_bytes.ensures.value operands (c.base_of.ensures ∙ ap (base_of build) (c.as_slice-3.ensures.value ∙ is.base))
    (c.as_slice-4.ensures.value ∙ is.makefile) refl)
    (listed_from build (pairs c.args.includes.now) text _ is.listing)) h.1 h.2 h.3) c.refused.ensures
