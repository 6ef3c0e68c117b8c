use Rattle.std.proofs.Common.{◌≡◌}
use Rattle.mk_missing.specs.Users.{files_of}
use Rattle.mk_missing.proofs.writers.files_of.Given as goal

-- the files so far are there
abbrev pub invariant-loop-user : goal.invariant-loop-user
invariant-loop-user l = l.paths.items ≡ files_of l.yielded
