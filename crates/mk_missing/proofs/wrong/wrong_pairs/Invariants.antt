use Rattle.std.proofs.Common.{◌≡◌}
use Rattle.mk_missing.specs.Finding.{AreFound}
use Rattle.mk_missing.specs.Kinds.{IsFine, IsWrong}
use Rattle.mk_missing.specs.Users.{files_of}
use Rattle.mk_missing.proofs.wrong.wrong_pairs.Given as goal

-- the files so far are done, and the answers are about the same jobs
abbrev pub invariant-loop-k : goal.invariant-loop-k
invariant-loop-k l = record {
  found : AreFound (files_of l.users) (IsWrong l.fn.checker l.kind) (IsFine l.fn.checker l.kind) l.pairs.items l.k;
  same : l.checker ≡ l.fn.checker;
}
