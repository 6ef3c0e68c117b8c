use Rattle.std.proofs.Common.{take}
use Rattle.mk_missing.specs.Users.{IsOnlyReader}
use Rattle.mk_missing.proofs.Keeping.{AreKept}
use Rattle.mk_missing.proofs.users.only_readers.Given as goal

-- those so far are kept
abbrev pub invariant-loop-n : goal.invariant-loop-n
invariant-loop-n l = AreKept (IsOnlyReader l.jobs l.writers l.file) (take l.n-index l.readers) l.kept.items
