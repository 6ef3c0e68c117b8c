-- The lines of the makefiles, each with the text where it stands ("Makefile Syntax").
use Rattle.std.specs.Prelude.{◌≡◌, Bool, true, false, List, [], ◌∷◌, ◌++◌}
use Rattle.mk_name.specs.Reported.{Reported}
use Rattle.mk_name.specs.declared.fault.Halt.{Halt}
use Rattle.mk_name.specs.declared.fault.Halt.TheVariants as halts
use Rattle.mk_name.specs.declared.fault.Source.{Source}
use Rattle.mk_name.specs.declared.fault.Source.TheVariants.{Base, Makefile}
use Rattle.mk_lines.specs.LogicalLine.{LogicalLine}
use Rattle.mk_lines.specs.declared.line.LineKind.{LineKind}
use Rattle.mk_lines.specs.declared.line.LineKind.TheVariants as kinds

-- a logical line, the text where it stands, and whether a command line stands right below it there
pub record Placed : Type 0 where
  pub source : Source
  pub line : LogicalLine
  pub command_below : Bool

-- a command line stands first
abbrev pub is_command : LineKind → Bool
is_command kinds.Recipe = true
is_command _ = false

abbrev pub begins_with_command : List LogicalLine → Bool
begins_with_command [] = false
begins_with_command (line ∷ lines) = is_command line.kind

-- the lines of one text
abbrev pub placed : Source → List LogicalLine → List Placed
placed source [] = []
placed source (line ∷ lines) = record { source = source; line = line; command_below = begins_with_command lines } ∷ placed source lines

-- the lines of the base makefile, and then those of the makefile
abbrev pub all_lines : List LogicalLine → List LogicalLine → List Placed
all_lines base makefile = placed Base base ++ placed Makefile makefile

-- a fault of a line is reported at its first physical line, in its text
abbrev pub reported_at : Placed → Reported → Reported
reported_at p fault = record fault { source = p.source; place = p.line.first_line }

-- the same halt, where a fault is reported at a line, or out of memory
abbrev pub IsReportedAt : Placed → Halt → Halt → Type 0
IsReportedAt p halt halts.Memory = Unit {0}
IsReportedAt p halt (halts.Fault reported) = (fault : Reported) × (halt ≡ halts.Fault fault) × (reported ≡ reported_at p fault)
