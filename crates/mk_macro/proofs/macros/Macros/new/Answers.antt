use Rattle.std.proofs.Common.{◌≡◌, ◌∙◌, ◌+◌, sym, ap, arith, map, take, Ok, Err}
use Rattle.std.proofs.lemmas.List.{take_all}
use Rattle.std.specs.Prelude.{fold}
use Rattle.std.specs.Option.{option_map_or}
use Rattle.mk_macro.specs.Macros.{no_macros}
use Rattle.mk_macro.specs.Operands.{is_bad, operand_fault, with_operand}
use Rattle.mk_macro.proofs.Places.{position_of_images}
use Rattle.mk_macro.proofs.macros.Macros.new.Goals as goal

pub returns-in-Some : goal.returns-in-Some
returns-in-Some c =
    let operands = c.args.operands.now in
    rw c.bad_operand.ensures
    (ap (λ place. option_map_or (λ n. Err (operand_fault (n + 1))) place (Ok (fold with_operand no_macros (map (λ operand. operand.now) operands))))
    (position_of_images (λ operand. operand.now) is_bad operands ∙ sym c.first_bad.ensures ∙ c.in-Some.is))

pub returns : goal.returns
returns c =
    let operands = c.args.operands.now in
    let i = c.loop-operand.operand-index in
    let whole : take i operands ≡ operands = take_all i operands (omega arith) in
    ap (λ place. option_map_or (λ n. Err (operand_fault (n + 1))) place (Ok (fold with_operand no_macros (map (λ operand. operand.now) operands))))
    (position_of_images (λ operand. operand.now) is_bad operands ∙ sym c.first_bad.ensures ∙ c.in_default.is)
    ∙ ap (λ xs. Ok (fold with_operand no_macros (map (λ operand. operand.now) xs))) (sym whole) ∙ ap Ok (sym c.loop-operand.invariant)
