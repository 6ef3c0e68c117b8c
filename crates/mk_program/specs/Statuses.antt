-- How the program ends, as numbers.
use Rattle.std.specs.Prelude.{ℕ}
use Rattle.mk_program.specs.declared.statuses.Status.{Status}
use Rattle.mk_program.specs.declared.statuses.Status.TheVariants as statuses

-- the statuses as numbers
abbrev pub number_of : Status → ℕ
number_of statuses.Done = 0
number_of statuses.No = 1
number_of statuses.Refused = 2
number_of statuses.Failed = 3
