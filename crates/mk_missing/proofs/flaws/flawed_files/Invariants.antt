use Rattle.std.proofs.Common.{ℕ}
use Rattle.mk_path.specs.Paths.{path_at}
use Rattle.mk_missing.specs.Kinds.{HasFlaw}
use Rattle.mk_missing.specs.Users.{files_of}
use Rattle.mk_missing.proofs.Presents.{AreThose}
use Rattle.mk_missing.proofs.flaws.flawed_files.Given as goal

-- the places so far are there, in order
abbrev pub invariant-loop-k : goal.invariant-loop-k
invariant-loop-k l = AreThose (λ (k : ℕ). HasFlaw l.jobs l.listing l.flaw (path_at (files_of l.users) k)) l.found.items l.k
