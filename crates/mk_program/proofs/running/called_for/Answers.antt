use Rattle.std.proofs.Common.{inl, inr, refl, rules}
use Rattle.mk_program.proofs.running.called_for.Goals as goal

pub returns-then-use_stderr-clause-failure : goal.returns-then-use_stderr-clause-failure
returns-then-use_stderr-clause-failure c =
    let others = c.if-use_stderr.ensures.0 refl in
    inr (c.in_ok-from_str.field-0, refl, λ call. elim call [ inl help ↦ others.0 help | inr version ↦ others.1 version ], search rules)
