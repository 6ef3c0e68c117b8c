-- What a fault says.
use Rattle.std.specs.Prelude.{ℕ, List}
use Rattle.mk_name.specs.declared.fault.Kind.{Kind}
use Rattle.mk_name.specs.declared.fault.Source.{Source}

-- a fault: what is wrong, in which text or stage, at which line, operand or node, and the names that it reports
pub record Reported : Type 0 where
  pub kind : Kind
  pub source : Source
  pub place : ℕ
  pub names : List (List ℕ)
