use Rattle.std.proofs.Common.{ap₂, ◌∙◌}
use Rattle.std.proofs.lemmas.Result.{IfOk-weaker}
use Rattle.clap.specs.Words.{with_rule}
use Rattle.mk_request.proofs.Locals.{stays}
use Rattle.mk_request.proofs.words.task_words.with_tasks.Goals as goal

pub returns-clause-app : goal.returns-clause-app
returns-clause-app c =
    IfOk-weaker c.arg.result _ _ (λ new h. h.shape c.option.ensures.local ∙ ap₂ with_rule c.in_ok-with_jobs.ensures.app c.option.ensures.rule) c.arg.ensures

pub returns-clause-local : goal.returns-clause-local
returns-clause-local c =
    IfOk-weaker c.arg.result _ _ (λ new h. stays _ _ _ h.globals c.option.ensures.local ∙ c.in_ok-with_jobs.ensures.local) c.arg.ensures
