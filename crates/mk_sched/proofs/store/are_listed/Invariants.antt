use Rattle.std.proofs.Common.{◌↔◌, IsTrue}
use Rattle.std.specs.BTreeMap.{keys}
use Rattle.std.specs.List.{All}
use Rattle.mk_name.specs.Names.{has, same_name}
use Rattle.mk_sched.proofs.store.are_listed.Given as goal

-- all names are listed where those that are left are
abbrev pub invariant-loop-name : goal.invariant-loop-name
invariant-loop-name l =
    All (λ name. IsTrue (has same_name l.listing name)) (keys l.files) ↔ All (λ name. IsTrue (has same_name l.listing name)) l.name-iterator
