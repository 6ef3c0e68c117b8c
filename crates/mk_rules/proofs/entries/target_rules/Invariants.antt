use Rattle.std.proofs.Common.{◌≡◌, filter, map}
use Rattle.mk_rules.specs.Book.{is_target_rule, without_waits}
use Rattle.mk_rules.proofs.entries.target_rules.Given as goal

-- the target rules among the entries so far
abbrev pub invariant-loop-entry : goal.invariant-loop-entry
invariant-loop-entry l = l.rules.items ≡ map without_waits (filter (is_target_rule l.suffixes.keys) l.yielded)
