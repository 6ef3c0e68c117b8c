use Rattle.std.proofs.Common.{ap, ap₂, ◌∙◌}
use Rattle.std.proofs.lemmas.Result.{IfOk-weaker}
use Rattle.clap.specs.Words.{App, with_subcommand}
use Rattle.mk_request.proofs.Locals.{was_made}
use Rattle.mk_request.proofs.words.race_command.Goals as goal

pub returns-clause-app : goal.returns-clause-app
returns-clause-app c =
    let order = c.in_ok-command.ensures.app in
    let first = order.2 ∙ ap₂ with_subcommand c.top_command.ensures.app
    (ap (λ (app : App). app.top) (was_made c.order_command.result _ order.0 c.order_command.ensures.app order.1)) in
    let check = c.in_ok-command-2.ensures.app in
    let second = check.2 ∙ ap₂ with_subcommand first
    (ap (λ (app : App). app.top) (was_made c.check_command.result _ check.0 c.check_command.ensures.app check.1)) in
    let verify = c.in_ok-command-3.ensures.app in
    let third = verify.2 ∙ ap₂ with_subcommand second
    (ap (λ (app : App). app.top) (was_made c.verify_command.result _ verify.0 c.verify_command.ensures.app verify.1)) in
    let replay = c.in_ok-command-4.ensures.app in
    let fourth = replay.2 ∙ ap₂ with_subcommand third
    (ap (λ (app : App). app.top) (was_made c.replay_command.result _ replay.0 c.replay_command.ensures.app replay.1)) in
    let serialise = c.in_ok-command-5.ensures.app in
    let fifth = serialise.2 ∙ ap₂ with_subcommand fourth
    (ap (λ (app : App). app.top) (was_made c.serialise_command.result _ serialise.0 c.serialise_command.ensures.app serialise.1)) in
    let list = c.in_ok-command-6.ensures.app in
    let sixth = list.2 ∙ ap₂ with_subcommand fifth
    (ap (λ (app : App). app.top) (was_made c.list_command.result _ list.0 c.list_command.ensures.app list.1)) in
    let fix = c.in_ok-command-7.ensures.app in
    let seventh = fix.2 ∙ ap₂ with_subcommand sixth
    (ap (λ (app : App). app.top) (was_made c.fix_command.result _ fix.0 c.fix_command.ensures.app fix.1)) in
    IfOk-weaker c.with_made-8.result _ _ (λ new h. h.2 ∙ ap₂ with_subcommand seventh
    (ap (λ (app : App). app.top) (was_made c.missing_command.result _ h.0 c.missing_command.ensures.app h.1))) c.with_made-8.ensures.app

pub returns-clause-local : goal.returns-clause-local
returns-clause-local c =
    IfOk-weaker c.with_made-8.result _ _ (λ new h. h ∙ c.in_ok-command-7.ensures.local ∙ c.in_ok-command-6.ensures.local ∙ c.in_ok-command-5.ensures.local ∙ c.in_ok-command-4.ensures.local ∙ c.in_ok-command-3.ensures.local ∙ c.in_ok-command-2.ensures.local
    ∙ c.in_ok-command.ensures.local ∙ c.top_command.ensures.local) c.with_made-8.ensures.local
