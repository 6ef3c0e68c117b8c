use Rattle.std.proofs.Common.{take}
use Rattle.mk_missing.proofs.Gathering.{AreUsed}
use Rattle.mk_missing.proofs.users.all_users.Given as goal

-- the files so far are there with their users
abbrev pub invariant-loop-place : goal.invariant-loop-place
invariant-loop-place l = AreUsed l.jobs (take l.place-index l.place-items) l.all.items
