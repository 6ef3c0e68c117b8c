-- Parts of a text.
use Rattle.std.specs.Prelude.{◌≡◌, List, [], ◌∷◌, ◌++◌, ℕ}

-- these parts stand in the text one behind another, in their order and without overlap
abbrev pub StandIn : List ℕ → List (List ℕ) → Type 0
StandIn text [] = Unit {0}
StandIn text (part ∷ parts) = (gap rest : List ℕ) × (text ≡ gap ++ part ++ rest) × StandIn rest parts
