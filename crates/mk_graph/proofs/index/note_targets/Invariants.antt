use Rattle.std.proofs.Common.{◌++◌, List, take}
use Rattle.mk_name.specs.Names.{Name}
use Rattle.mk_rules.specs.Book.{targets_of}
use Rattle.mk_graph.specs.Places.{AreNamePlaces}
use Rattle.mk_graph.proofs.index.note_targets.Given as goal

-- the targets so far are noted
abbrev pub invariant-loop-number : goal.invariant-loop-number
invariant-loop-number l =
    (names : List Name) → AreNamePlaces l.book.suffixes names l.initial.table → AreNamePlaces l.book.suffixes (names ++ take l.number (targets_of l.book.rules)) l.table
