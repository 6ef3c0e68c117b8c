-- The lines of what was found.
use Rattle.std.proofs.Common.{ℕ, ◌≡◌, ◌∙◌, ◌+◌, ◌<◌, List, ◌++◌, ap, get_or, length, sym, take}
use Rattle.std.specs.List.{flat_map}
use Rattle.std.proofs.lemmas.List.{flat_map_more, take_more}

-- the lines of one item more
pub texts_more : {X : Type 0} (text : X → List ℕ) (items : List X) (i : ℕ) (other : X) (start so_far new : List ℕ) → i < length items
    → so_far ≡ start ++ flat_map text (take i items) → new ≡ so_far ++ text (get_or items i other) → new ≡ start ++ flat_map text (take (i + 1) items)
texts_more text items i other start so_far new within was is =
    is ∙ ap (λ (t : List ℕ). t ++ text (get_or items i other)) was ∙ flat_map_more text start (take i items) (get_or items i other)
    ∙ ap (λ some. start ++ flat_map text some) (sym (take_more items i other within))
