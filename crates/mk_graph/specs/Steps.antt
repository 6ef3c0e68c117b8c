-- The stack of a walk, its top first.
use Rattle.std.specs.Prelude.{ℕ, List, [], ◌∷◌, nat_eq, if◌then◌else◌}
use Rattle.mk_graph.specs.declared.serial.Step.{Step}
use Rattle.mk_graph.specs.declared.serial.Step.TheVariants.{Enter, Leave}

-- the nodes to be left, from the one that is `back` up to the top, and then the rest
abbrev pub ring_to : ℕ → List ℕ → List Step → List ℕ
ring_to back rest [] = rest
ring_to back rest (Enter n ∷ steps) = ring_to back rest steps
ring_to back rest (Leave n ∷ steps) = if nat_eq n back then n ∷ rest else ring_to back (n ∷ rest) steps
