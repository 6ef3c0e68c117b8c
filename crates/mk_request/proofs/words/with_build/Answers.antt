use Rattle.std.proofs.Common.{ap₂, refl, ◌∙◌}
use Rattle.std.proofs.lemmas.Result.{IfOk-weaker}
use Rattle.clap.specs.Words.{with_rule}
use Rattle.mk_request.proofs.Locals.{stays}
use Rattle.mk_request.proofs.words.with_build.Goals as goal

pub returns-clause-app : goal.returns-clause-app
returns-clause-app c =
    let first = c.in_ok-arg.ensures.shape c.option.ensures.local ∙ ap₂ with_rule refl c.option.ensures.rule in
    let second = c.in_ok-arg-2.ensures.shape c.option-2.ensures.local ∙ ap₂ with_rule first c.option-2.ensures.rule in
    let third = c.in_ok-arg-3.ensures.shape c.option-3.ensures.local ∙ ap₂ with_rule second c.option-3.ensures.rule in
    let fourth = c.in_ok-arg-4.ensures.shape c.option-4.ensures.local ∙ ap₂ with_rule third c.option-4.ensures.rule in
    let fifth = c.in_ok-arg-5.ensures.shape c.flag.ensures.local ∙ ap₂ with_rule fourth c.flag.ensures.rule in
    let sixth = c.in_ok-arg-6.ensures.shape c.option-5.ensures.local ∙ ap₂ with_rule fifth c.option-5.ensures.rule in
    let seventh = c.in_ok-arg-7.ensures.shape c.flag-2.ensures.local ∙ ap₂ with_rule sixth c.flag-2.ensures.rule in
    IfOk-weaker c.arg-8.result _ _ (λ new h. h.shape c.operands.ensures.local ∙ ap₂ with_rule seventh c.operands.ensures.rule) c.arg-8.ensures

pub returns-clause-local : goal.returns-clause-local
returns-clause-local c =
    let first = stays _ _ _ c.in_ok-arg.ensures.globals c.option.ensures.local in
    let second = stays _ _ _ c.in_ok-arg-2.ensures.globals c.option-2.ensures.local in
    let third = stays _ _ _ c.in_ok-arg-3.ensures.globals c.option-3.ensures.local in
    let fourth = stays _ _ _ c.in_ok-arg-4.ensures.globals c.option-4.ensures.local in
    let fifth = stays _ _ _ c.in_ok-arg-5.ensures.globals c.flag.ensures.local in
    let sixth = stays _ _ _ c.in_ok-arg-6.ensures.globals c.option-5.ensures.local in
    let seventh = stays _ _ _ c.in_ok-arg-7.ensures.globals c.flag-2.ensures.local in
    IfOk-weaker c.arg-8.result _ _ (λ new h. stays _ _ _ h.globals c.operands.ensures.local ∙ seventh ∙ sixth ∙ fifth ∙ fourth ∙ third ∙ second ∙ first) c.arg-8.ensures
