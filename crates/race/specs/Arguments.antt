-- Why the words of the process cannot be read.
use Rattle.std.specs.Prelude.{ℕ, ◌≡◌, List, string_bytes}
use Rattle.mk_files.specs.declared.failures.Failure.{Failure}
use Rattle.mk_files.specs.declared.failures.Failure.TheVariants as failures

-- the command line is invalid, and this text says how
abbrev pub IsNotText : Failure → List ℕ → Type 0
IsNotText (failures.Read input) reported = ⊥
IsNotText failures.Write reported = ⊥
IsNotText failures.Memory reported = ⊥
IsNotText failures.NotText reported = ⊥
IsNotText (failures.Usage text) reported = string_bytes text ≡ reported
