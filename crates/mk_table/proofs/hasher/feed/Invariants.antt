use Rattle.std.proofs.Common.{ℕ, List, ◌++◌, take}
use Rattle.sha2.specs.Hashers.{Holds256}
use Rattle.mk_table.specs.Hashing.{key_text}
use Rattle.mk_table.proofs.hasher.feed.Given as goal

-- the names so far are fed
abbrev pub invariant-loop-name : goal.invariant-loop-name
invariant-loop-name l = (m : List ℕ) → Holds256 l.initial.digest m → Holds256 l.digest (m ++ key_text (take l.name-index l.names))
