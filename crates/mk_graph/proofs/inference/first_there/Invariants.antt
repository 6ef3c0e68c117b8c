use Rattle.std.proofs.Common.{◌≡◌, ℕ, ◌<◌, ◌++◌, ◌-◌, false, length}
use Rattle.std.specs.Prelude.{◌&&◌}
use Rattle.mk_jobs.specs.Numbered.{name_at}
use Rattle.mk_graph.specs.Makers.{is_there}
use Rattle.mk_graph.specs.Numbers.{in_set}
use Rattle.mk_graph.proofs.inference.first_there.Given as goal

-- no place below this one serves
abbrev pub invariant-places : goal.invariant-places
invariant-places l = (p : ℕ) → p < l.from → (in_set l.places p && is_there l.book l.listing (l.stem ++ name_at l.book.suffixes p)) ≡ false

abbrev pub decreases-places : goal.decreases-places
decreases-places l = length l.book.suffixes - l.from
