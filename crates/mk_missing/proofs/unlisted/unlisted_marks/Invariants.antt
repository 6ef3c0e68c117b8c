use Rattle.std.proofs.Common.{◌≡◌, map, take}
use Rattle.mk_missing.specs.Users.{is_nowhere}
use Rattle.mk_missing.proofs.unlisted.unlisted_marks.Given as goal

-- the marks so far are there
abbrev pub invariant-loop-user : goal.invariant-loop-user
invariant-loop-user l = l.marks.items ≡ map (is_nowhere l.listing) (take l.user-index l.users)
