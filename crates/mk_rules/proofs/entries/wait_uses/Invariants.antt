use Rattle.std.proofs.Common.{◌≡◌, take}
use Rattle.mk_rules.specs.Book.{waits_of}
use Rattle.mk_rules.proofs.entries.wait_uses.Given as goal

-- the uses in the entries so far are counted
abbrev pub invariant-loop-entry : goal.invariant-loop-entry
invariant-loop-entry l = l.uses ≡ waits_of (take l.entry-index l.entries)
