use Rattle.std.proofs.Common.{ap₂, ◌∙◌}
use Rattle.std.proofs.lemmas.Result.{IfOk-weaker}
use Rattle.clap.specs.Words.{with_rule}
use Rattle.mk_request.proofs.Locals.{stays}
use Rattle.mk_request.proofs.words.job_words.with_jobs.Goals as goal

pub returns-clause-app : goal.returns-clause-app
returns-clause-app c =
    let first = c.in_ok-arg.ensures.shape c.option.ensures.local ∙ ap₂ with_rule c.in_ok-with_build.ensures.app c.option.ensures.rule in
    IfOk-weaker c.arg-2.result _ _ (λ new h. h.shape c.flag.ensures.local ∙ ap₂ with_rule first c.flag.ensures.rule) c.arg-2.ensures

pub returns-clause-local : goal.returns-clause-local
returns-clause-local c =
    let first = stays _ _ _ c.in_ok-arg.ensures.globals c.option.ensures.local in
    IfOk-weaker c.arg-2.result _ _ (λ new h. stays _ _ _ h.globals c.flag.ensures.local ∙ first ∙ c.in_ok-with_build.ensures.local) c.arg-2.ensures
