use Rattle.std.proofs.Common.{◌≡◌, map, take}
use Rattle.mk_missing.specs.declared.users.Users.{Users}
use Rattle.mk_missing.proofs.writers.last_writers.Given as goal

-- the last writers so far are there
abbrev pub invariant-loop-user : goal.invariant-loop-user
invariant-loop-user l = l.last.items ≡ map (λ (user : Users). user.last) (take l.user-index l.users)
