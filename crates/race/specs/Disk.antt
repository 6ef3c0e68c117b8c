-- What is stated of the files of the system: nothing.
use Rattle.std.specs.Prelude.{None}
use Rattle.mk_files.specs.Files.{Files}

-- of no path it is stated what its file holds, nor whether it can be opened and read
abbrev pub no_files : Files
no_files = record { text = λ _. None; opens = λ _. None; reads = λ _. None }
