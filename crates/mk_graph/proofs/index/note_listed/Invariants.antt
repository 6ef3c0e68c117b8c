use Rattle.std.proofs.Common.{◌≡◌, List, [], ◌++◌}
use Rattle.mk_name.specs.Names.{Name}
use Rattle.mk_graph.specs.Places.{AreNamePlaces}
use Rattle.mk_graph.proofs.index.note_listed.Given as goal

-- the names before those that are left are noted
abbrev pub invariant-loop-name : goal.invariant-loop-name
invariant-loop-name l =
    (front : List Name) × (front ++ l.name-iterator ≡ l.listing) × (AreNamePlaces l.book.suffixes [] l.initial.table → AreNamePlaces l.book.suffixes front l.table)
