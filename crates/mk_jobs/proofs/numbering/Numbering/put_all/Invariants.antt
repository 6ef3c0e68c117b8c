use Rattle.std.proofs.Common.{◌≡◌, take}
use Rattle.mk_name.specs.Names.{kept, same_name}
use Rattle.mk_jobs.specs.Numbered.{Stand}
use Rattle.mk_jobs.proofs.numbering.Numbering.put_all.Given as goal

abbrev pub invariant-loop-name : goal.invariant-loop-name
invariant-loop-name l = record {
  kept : l.self ≡ kept same_name l.initial.self (take l.name-index l.some);
  stand : Stand l.self l.numbers.items (take l.name-index l.some);
}
