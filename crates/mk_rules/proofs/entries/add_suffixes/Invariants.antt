use Rattle.std.proofs.Common.{◌≡◌, filter, take}
use Rattle.mk_name.specs.Names.{kept, same_name}
use Rattle.mk_rules.specs.Special.{is_suffix}
use Rattle.mk_rules.proofs.entries.add_suffixes.Given as goal

-- the suffixes among the names so far are taken in
abbrev pub invariant-loop-name : goal.invariant-loop-name
invariant-loop-name l = l.suffixes.keys ≡ kept same_name l.initial.suffixes.keys (filter is_suffix (take l.name-index l.names))
