use Rattle.std.proofs.Common.{◌≡◌, take}
use Rattle.mk_rules.specs.Book.{suffixes_of}
use Rattle.mk_rules.proofs.entries.suffixes.Given as goal

-- the list is that of the entries so far
abbrev pub invariant-loop-entry : goal.invariant-loop-entry
invariant-loop-entry l = l.suffixes.keys ≡ suffixes_of (take l.entry-index l.entries)
