use Rattle.mk_macro.proofs.output.Output.open.Goals as goal

pub returns-in_ok-settle-clause-opened : goal.returns-in_ok-settle-clause-opened
returns-in_ok-settle-clause-opened c = λ text texts o. c.in_ok-settle.ensures.same _ _ (c.in_ok-begin.ensures.opened text texts o)
