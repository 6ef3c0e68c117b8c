use Rattle.std.proofs.Common.{ap₂, ◌∙◌}
use Rattle.std.proofs.lemmas.Result.{IfOk-weaker}
use Rattle.clap.specs.Words.{with_rule}
use Rattle.mk_request.proofs.Locals.{stays}
use Rattle.mk_request.proofs.words.replay_words.with_log.Goals as goal

pub returns-clause-app : goal.returns-clause-app
returns-clause-app c =
    let first = c.in_ok-arg.ensures.shape c.option.ensures.local ∙ ap₂ with_rule c.in_ok-with_jobs.ensures.app c.option.ensures.rule in
    let second = c.in_ok-arg-2.ensures.shape c.limit.ensures.local ∙ ap₂ with_rule first c.limit.ensures.rule in
    IfOk-weaker c.arg-3.result _ _ (λ new h. h.shape c.tie.ensures.local ∙ ap₂ with_rule second c.tie.ensures.rule) c.arg-3.ensures

pub returns-clause-local : goal.returns-clause-local
returns-clause-local c =
    let first = stays _ _ _ c.in_ok-arg.ensures.globals c.option.ensures.local in
    let second = stays _ _ _ c.in_ok-arg-2.ensures.globals c.limit.ensures.local in
    IfOk-weaker c.arg-3.result _ _ (λ new h. stays _ _ _ h.globals c.tie.ensures.local ∙ second ∙ first ∙ c.in_ok-with_jobs.ensures.local) c.arg-3.ensures
