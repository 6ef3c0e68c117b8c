use Rattle.std.proofs.Common.{◌∙◌, sym, ap, arith, reverse, ◌∷◌, [], Some, None}
use Rattle.std.specs.Prelude.{if◌then◌else◌}
use Rattle.mk_name.specs.declared.fault.Kind.TheVariants.{MacroLoop}
use Rattle.mk_macro.specs.Expansion.{macro_fault}
use Rattle.mk_macro.proofs.Refusals.{refusal_is}
use Rattle.mk_macro.proofs.open.refuse.Goals as goal

pub returns-then-is_busy-clause-refused : goal.returns-then-is_busy-clause-refused
returns-then-is_busy-clause-refused c =
    let e = refusal_is (reverse c.args.opens.now) c.args.count c.args.name.now c.is_busy.result (sym c.is_internal.ensures ∙ c.if-is_internal.false) (omega arith) c.is_busy.ensures in
    e ∙ ap (λ b. if b then Some (macro_fault MacroLoop (c.args.name.now ∷ [])) else None) c.if-is_busy.true ∙ ap Some (sym c.in_ok-named-2.ensures)

pub returns-clause-allowed : goal.returns-clause-allowed
returns-clause-allowed c =
    let e = refusal_is (reverse c.args.opens.now) c.args.count c.args.name.now c.is_busy.result (sym c.is_internal.ensures ∙ c.if-is_internal.false) (omega arith) c.is_busy.ensures in
    rw (c.if-is_busy.false) at e
