use Rattle.std.proofs.Common.{take}
use Rattle.mk_graph.specs.Places.{AreRulePlaces}
use Rattle.mk_graph.proofs.index.rule_places.Given as goal

abbrev pub invariant-loop-rule : goal.invariant-loop-rule
invariant-loop-rule l = AreRulePlaces l.book.suffixes (take l.rule-index l.rule-items) l.table
