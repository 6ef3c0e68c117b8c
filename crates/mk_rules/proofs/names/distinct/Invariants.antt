use Rattle.std.proofs.Common.{◌≡◌}
use Rattle.mk_name.specs.Names.{firsts, same_name}
use Rattle.mk_rules.proofs.names.distinct.Given as goal

-- the names so far are taken in
abbrev pub invariant-loop-name : goal.invariant-loop-name
invariant-loop-name l = l.seen.keys ≡ firsts same_name l.yielded
