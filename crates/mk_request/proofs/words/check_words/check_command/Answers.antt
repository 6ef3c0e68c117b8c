use Rattle.std.proofs.Common.{ap₂, ap, codes, false, rules, ◌≡◌, ◌∙◌}
use Rattle.std.proofs.lemmas.Result.{IfOk-weaker}
use Rattle.clap.specs.Words.{app_of, new_app, with_rule}
use Rattle.clap.specs.declared.builder.command.Command.TheViews.{out-Command as fields_of}
use Rattle.mk_request.specs.CommandLine.{with_tasks}
use Rattle.mk_request.proofs.Locals.{stays}
use Rattle.mk_request.proofs.words.check_words.check_command.Goals as goal

pub returns-clause-app : goal.returns-clause-app
returns-clause-app c =
    let named : app_of c.after_help-command.result ≡ new_app (codes "check") = search rules in
    let tasks = c.in_ok-with_tasks.ensures.app ∙ ap (with_tasks false) named in
    let first = c.in_ok-arg.ensures.shape c.flag.ensures.local ∙ ap₂ with_rule tasks c.flag.ensures.rule in
    IfOk-weaker c.arg-2.result _ _ (λ new h. h.shape c.flag-2.ensures.local ∙ ap₂ with_rule first c.flag-2.ensures.rule) c.arg-2.ensures

pub returns-clause-local : goal.returns-clause-local
returns-clause-local c =
    let own : (fields_of c.after_help-command.result).has_globals ≡ false = search rules in
    let first = stays _ _ _ c.in_ok-arg.ensures.globals c.flag.ensures.local in
    IfOk-weaker c.arg-2.result _ _ (λ new h. stays _ _ _ h.globals c.flag-2.ensures.local ∙ first ∙ c.in_ok-with_tasks.ensures.local ∙ own) c.arg-2.ensures
