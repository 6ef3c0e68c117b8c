use Rattle.std.proofs.Common.{ap, codes, false, rules, ◌≡◌, ◌∙◌}
use Rattle.std.proofs.lemmas.Result.{IfOk-weaker}
use Rattle.clap.specs.Words.{app_of, new_app}
use Rattle.clap.specs.declared.builder.command.Command.TheViews.{out-Command as fields_of}
use Rattle.mk_request.specs.CommandLine.{with_tasks}
use Rattle.mk_request.proofs.words.list_words.list_command.Goals as goal

pub returns-clause-app : goal.returns-clause-app
returns-clause-app c =
    let named : app_of c.after_help-command.result ≡ new_app (codes "list") = search rules in
    IfOk-weaker c.with_tasks.result _ _ (λ new h. h ∙ ap (with_tasks false) named) c.with_tasks.ensures.app

pub returns-clause-local : goal.returns-clause-local
returns-clause-local c =
    let own : (fields_of c.after_help-command.result).has_globals ≡ false = search rules in
    IfOk-weaker c.with_tasks.result _ _ (λ new h. h ∙ own) c.with_tasks.ensures.local
