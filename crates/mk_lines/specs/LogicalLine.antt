-- A logical line of a makefile.
use Rattle.std.specs.Prelude.{ℕ, ◌+◌, ◌<◌, ◌≤◌, List, Option, None, Some, Result, Ok, Err, IfSome, take, drop}
use Rattle.std.specs.List.{join_with_byte}
use Rattle.std.specs.Option.{is_some}
use Rattle.mk_name.specs.declared.fault.Kind.{Kind}
use Rattle.mk_lines.specs.declared.line.LineKind.{LineKind}
use Rattle.mk_lines.specs.declared.line.LineKind.TheVariants.{Assign, Entry, Recipe, Include}
use Rattle.mk_lines.specs.declared.parts.Parts.{Parts}
use Rattle.mk_lines.specs.declared.parts.Parts.TheVariants as parts

-- a logical line: its kind, the number of its first physical line, and the parts of the makefile that make it up
pub record LogicalLine : Type 0 where
  pub kind : LineKind
  pub first_line : ℕ
  pub pieces : List (List ℕ)

-- the text of a logical line: its pieces with one space between each two
abbrev pub text_of : LogicalLine → List ℕ
text_of line = join_with_byte 32 line.pieces

-- the places of a line of this kind lie in a text of so many bytes
abbrev pub LiesIn : LineKind → ℕ → Type 0
LiesIn (Assign name_start name_end operator value_start) n = (name_start ≤ name_end) × (name_end ≤ n) × (value_start ≤ n)
LiesIn (Entry colon semicolon) n = (colon < n) × IfSome semicolon (λ s. (colon < s) × (s ≤ n))
LiesIn Recipe n = Unit {0}
LiesIn (Include hyphen rest) n = rest ≤ n

-- a text is that of a line, of a kind with this fact
abbrev pub IfLine : Result (Option LineKind) Kind → (LineKind → Type 0) → Type 0
IfLine (Ok (Some kind)) P = P kind
IfLine (Ok None) P = Unit {0}
IfLine (Err fault) P = Unit {0}

-- what stands before the semicolon, where there is one
abbrev pub before_semicolon : List ℕ → Option ℕ → List ℕ
before_semicolon text None = text
before_semicolon text (Some semicolon) = take semicolon text

-- the parts of a text of this kind: name, operator and value of an assignment; of an entry what stands before its colon, what
-- stands behind that and before its semicolon, and whether it has one; of an include line what stands behind its first word
abbrev pub parted : LineKind → List ℕ → Parts
parted (Assign name_start name_end operator value_start) text =
    parts.Assign (record { name = drop name_start (take name_end text); operator = operator; value = drop value_start text })
parted (Entry colon semicolon) text =
    parts.Entry (record { targets = take colon text; prerequisites = drop (colon + 1) (before_semicolon text semicolon); has_command = is_some semicolon })
parted Recipe text = parts.Recipe
parted (Include hyphen rest) text = parts.Include (record { hyphen = hyphen; rest = drop rest text })

abbrev pub parts_of : LogicalLine → Parts
parts_of line = parted line.kind (text_of line)
