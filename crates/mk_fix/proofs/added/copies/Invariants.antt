use Rattle.std.proofs.Common.{◌≡◌, take}
use Rattle.mk_fix.proofs.added.copies.Given as goal

-- the copies so far are there
abbrev pub invariant-loop-path : goal.invariant-loop-path
invariant-loop-path l = l.list.items ≡ take l.path-index l.paths
