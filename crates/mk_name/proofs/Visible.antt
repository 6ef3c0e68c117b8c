-- Names whose bytes all stand for themselves.
use Rattle.std.proofs.Common.{◌≡◌, ◌∙◌, ℕ, true, List, [], ◌∷◌, ◌++◌, ap, refl, ◌/◌, ◌%◌}
use Rattle.std.specs.List.{list_all}
use Rattle.std.proofs.lemmas.Bool.{and_parts, cond-true}
use Rattle.mk_name.specs.Shown.{is_visible, shown, hex_digit}

-- a name of visible bytes is shown as it is
pub shown_visible : (name : List ℕ) → list_all is_visible name ≡ true → shown name ≡ name
shown_visible [] h = refl
shown_visible (b ∷ bs) h =
    let parts = and_parts (is_visible b) (list_all is_visible bs) h in
    ap (λ first. first ++ shown bs) (cond-true (is_visible b) (b ∷ []) (92 ∷ 120 ∷ hex_digit (b / 16) ∷ hex_digit (b % 16) ∷ []) parts.0) ∙ ap (λ rest. b ∷ rest) (shown_visible bs parts.1)
