use Rattle.std.proofs.Common.{◌≡◌, length, map, take}
use Rattle.mk_rules.specs.Index.{IsIndexed}
use Rattle.mk_rules.proofs.rulebook.Rulebook.of_rules.Given as goal

-- the entries so far are in the index
abbrev pub invariant-loop-place : goal.invariant-loop-place
invariant-loop-place l = record {
  long : length l.places.items ≡ length l.targets.keys;
  index : IsIndexed (take l.place l.fn.rules.items) l.targets.keys (map (λ row. row.items) l.places.items);
}
