use Rattle.std.proofs.Common.{◌≡◌, List, drop, length, take}
use Rattle.std.specs.List.{flat_map}
use Rattle.mk_path.specs.declared.path.Path.{Path}
use Rattle.mk_index.specs.Places.{AreNumbers, ArePlaces}
use Rattle.mk_index.proofs.places.cut.Given as goal

abbrev pub invariant-loop-row : goal.invariant-loop-row
invariant-loop-row l = record {
  left : l.rest ≡ drop (length (flat_map (λ row. row.items) (take l.row-index l.rows))) l.numbers;
  done : (paths : List Path) → ArePlaces paths l.numbers (flat_map (λ row. row.items) l.rows) → AreNumbers paths l.table (take l.row-index l.rows);
}
