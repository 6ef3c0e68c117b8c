-- The parts of a logical line's text.
use Rattle.std.specs.Prelude.{ℕ, Bool, List}
use Rattle.mk_lines.specs.declared.line.Operator.{Operator}

-- an assignment: the macro's name, and the value behind the operator
pub record AssignmentParts : Type 0 where
  pub name : List ℕ
  pub operator : Operator
  pub value : List ℕ

-- an entry: its targets, its prerequisites, and whether a command follows them behind a semicolon
pub record EntryParts : Type 0 where
  pub targets : List ℕ
  pub prerequisites : List ℕ
  pub has_command : Bool

-- an include line: whether its first word has a hyphen in front, and all that stands behind that word
pub record IncludeParts : Type 0 where
  pub hyphen : Bool
  pub rest : List ℕ
