-- Names in their order.
use Rattle.std.proofs.Common.{◌≡◌, ℕ, ◌||◌, List, [], ◌∷◌, sym, ◌∙◌, refl}
use Rattle.std.specs.List.{list_any}
use Rattle.std.specs.Cmp.Lexicographic.{slice_cmp, texts_ties, nat_list_eq_equiv}
use Rattle.std.specs.Ordering.{nat_cmp, is_eq}
use Rattle.mk_name.specs.Names.{has, same_name}

-- a set of names has those that are the same as one of its keys
pub has_by_order : (names : List (List ℕ)) (name : List ℕ) → list_any (λ k. is_eq (slice_cmp nat_cmp name k)) names ≡ has same_name names name
has_by_order [] name = refl
has_by_order (k ∷ ks) name =
    let here = sym (texts_ties name k) ∙ nat_list_eq_equiv.symm name k in
    let later = has_by_order ks name in
    λ i. here i || later i
