use Rattle.mk_index.specs.Placed.{ArePlaced}
use Rattle.mk_index.proofs.index.Index.all_places.Given as goal

-- the numbers so far are placed
abbrev pub invariant-loop-t : goal.invariant-loop-t
invariant-loop-t l = ArePlaced l.self l.places.items l.t
