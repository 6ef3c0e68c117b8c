use Rattle.std.proofs.Common.{take}
use Rattle.mk_graph.specs.Collected.{Reads}
use Rattle.mk_graph.proofs.collect.read_entries.Given as goal

abbrev pub invariant-loop-place : goal.invariant-loop-place
invariant-loop-place l = Reads l.book.rules (take l.place-index l.places) l.initial.names l.initial.entries l.names l.entries
