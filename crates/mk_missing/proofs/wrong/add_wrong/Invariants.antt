use Rattle.std.proofs.Common.{◌≡◌, take}
use Rattle.mk_missing.specs.Kinds.{IsFine, IsWrong}
use Rattle.mk_missing.specs.Users.{files_of}
use Rattle.mk_missing.proofs.Adding.{Adding}
use Rattle.mk_missing.proofs.wrong.add_wrong.Given as goal

-- the pairs of the nodes so far are added, and the answers are about the same jobs
abbrev pub invariant-loop-n : goal.invariant-loop-n
invariant-loop-n l = record {
  adding : Adding (files_of l.users) (IsWrong l.fn.checker l.kind) (IsFine l.fn.checker l.kind) l.fn.pairs.items l.k (take l.n-index l.n-items) l.pairs.items;
  same : l.checker ≡ l.fn.checker;
}
