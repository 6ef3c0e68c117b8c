use Rattle.std.proofs.lemmas.Result.{IfOk-weaker}
use Rattle.mk_request.proofs.Locals.{stays, was_made}
use Rattle.mk_request.proofs.words.with_made.Goals as goal

pub returns-in-Ok-clause-app : goal.returns-in-Ok-clause-app
returns-in-Ok-clause-app c =
    IfOk-weaker c.subcommand.result _ _ (λ new h. (c.in-Ok.sub, c.in-Ok.is, h.shape (was_made c.args.made _ c.in-Ok.sub c.requires c.in-Ok.is))) c.subcommand.ensures

pub returns-in-Ok-clause-local : goal.returns-in-Ok-clause-local
returns-in-Ok-clause-local c =
    IfOk-weaker c.subcommand.result _ _ (λ new h. stays _ _ _ h.globals (was_made c.args.made _ c.in-Ok.sub c.requires c.in-Ok.is)) c.subcommand.ensures
