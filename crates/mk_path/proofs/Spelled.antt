-- Texts that end in a slash.
use Rattle.std.proofs.Common.{ℕ, ◌≡◌, ◌-◌, true, List, [], ◌∷◌, ◌++◌, length, take, drop, sym, ap, ap₂, ◌∙◌, arith, length-append}
use Rattle.std.proofs.Math.Seq.{drop-append_seam, take-append_seam}
use Rattle.std.proofs.lemmas.List.{take-append-drop}
use Rattle.mk_name.specs.Names.{same_name}
use Rattle.mk_name.proofs.Names.{name_is_exact}

-- the last place of a text that ends in a slash
last_place : (name text : List ℕ) → name ++ 47 ∷ [] ≡ text → length text - 1 ≡ length name
last_place name text is = omega (arith, length-append name (47 ∷ []), ap length is)

-- such a text has a slash there
pub slash_last : (name text : List ℕ) → name ++ 47 ∷ [] ≡ text → same_name (drop (length text - 1) text) (47 ∷ []) ≡ true
slash_last name text is =
    let end : drop (length text - 1) text ≡ 47 ∷ [] =
    ap (λ n. drop n text) (last_place name text is) ∙ ap (drop (length name)) (sym is) ∙ drop-append_seam name (47 ∷ []) in
    ap (λ t. same_name t (47 ∷ [])) end ∙ name_is_exact.itself (47 ∷ [])

-- and what stands before it is the rest
pub rest_is : (name text : List ℕ) → name ++ 47 ∷ [] ≡ text → name ≡ take (length text - 1) text
rest_is name text is = sym (ap (λ n. take n text) (last_place name text is) ∙ ap (take (length name)) (sym is) ∙ take-append_seam name (47 ∷ []))

-- a text with a slash there is the rest and the slash
pub with_slash : (name text : List ℕ) → same_name (drop (length text - 1) text) (47 ∷ []) ≡ true → name ≡ take (length text - 1) text → name ++ 47 ∷ [] ≡ text
with_slash name text slash is =
    ap₂ (λ x y. x ++ y) is (sym (name_is_exact.equal (drop (length text - 1) text) (47 ∷ []) slash)) ∙ take-append-drop (length text - 1) text
