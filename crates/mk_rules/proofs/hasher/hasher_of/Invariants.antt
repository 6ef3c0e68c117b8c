use Rattle.std.proofs.Common.{take}
use Rattle.sha2.specs.Hashers.{Holds256}
use Rattle.mk_table.specs.Hashing.{key_text}
use Rattle.mk_rules.specs.Hashing.{names_of}
use Rattle.mk_rules.proofs.hasher.hasher_of.Given as goal

-- the names of the entries so far are fed
abbrev pub invariant-loop-entry : goal.invariant-loop-entry
invariant-loop-entry l = Holds256 l.digest (key_text (names_of (take l.entry-index l.entries)))
