use Rattle.std.proofs.Common.{◌≡◌, take}
use Rattle.mk_name.specs.Names.{kept, same_name}
use Rattle.mk_rules.proofs.names.join.Given as goal

-- the names so far are taken in
abbrev pub invariant-loop-name : goal.invariant-loop-name
invariant-loop-name l = l.joined.keys ≡ kept same_name l.initial.joined.keys (take l.name-index l.names)
