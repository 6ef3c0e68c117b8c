use Rattle.std.proofs.Common.{◌≡◌, drop}
use Rattle.std.specs.Prelude.{fold}
use Rattle.std.specs.BTreeSet.{insert_key}
use Rattle.std.specs.List.{filter_map}
use Rattle.std.specs.Ordering.{nat_cmp}
use Rattle.mk_jobs.specs.Numbered.{number_of}
use Rattle.mk_due.specs.Items.{numbers_of}
use Rattle.mk_due.proofs.numbers.numbers_of.Given as goal

-- the numbers so far, with those of the names that are left, are all of them
abbrev pub invariant-loop-name : goal.invariant-loop-name
invariant-loop-name l = fold (insert_key nat_cmp) l.numbers.keys (filter_map (number_of l.names) (drop l.name-index l.some)) ≡ numbers_of l.names l.some
