use Rattle.std.proofs.Common.{◌≡◌, map, take}
use Rattle.std.specs.Prelude.{fold}
use Rattle.mk_macro.specs.Macros.{macros_of, no_macros}
use Rattle.mk_macro.specs.Operands.{with_operand}
use Rattle.mk_macro.proofs.macros.Macros.new.Given as goal

-- the operands so far are read
abbrev pub invariant-loop-operand : goal.invariant-loop-operand
invariant-loop-operand l = macros_of l.macros ≡ fold with_operand no_macros (map (λ operand. operand.now) (take l.operand-index l.operands))
