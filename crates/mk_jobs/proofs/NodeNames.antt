-- The names of a plan's nodes.
use Rattle.std.proofs.Common.{◌≡◌, ℕ, ◌<◌, false, List, [], ◌∷◌, ◌++◌, length, get_or, sym, ◌∙◌, subst, inl, inr, refl, append_assoc}
use Rattle.std.specs.Prelude.{IsTrue}
use Rattle.std.proofs.lemmas.Bool.{both_ways, false_from_ne_true}
use Rattle.std.proofs.lemmas.List.{append-nil, get_or_default}
use Rattle.std.proofs.lemmas.Option.{unwrap_or-slice_get}
use Rattle.mk_name.specs.Names.{Name, same_name, has, kept, IsDistinct}
use Rattle.mk_name.proofs.Names.{name_is_exact, in_head, in_tail, in_cons_cases, kept_new}
use Rattle.mk_jobs.specs.Plan.{Node, nobody, node_at}

-- what is read at a place is the node of its number
pub node_read : (nodes : List Node) (n : ℕ) (d : Node) → n < length nodes → d ≡ get_or nodes n d → d ≡ node_at nodes n
node_read nodes n d below is = is ∙ get_or_default nodes n d nobody below ∙ sym (unwrap_or-slice_get nodes n nobody)

in_middle : (front : List Name) (x : Name) (xs : List Name) → IsTrue (has same_name (front ++ x ∷ xs) x)
in_middle [] x xs = in_head same_name name_is_exact x xs
in_middle (y ∷ ys) x xs = in_tail same_name name_is_exact y x (ys ++ x ∷ xs) (in_middle ys x xs)

pub absent : (front : List Name) (x : Name) (xs : List Name) → IsDistinct same_name (front ++ x ∷ xs) → has same_name front x ≡ false
absent [] x xs d = refl
absent (y ∷ ys) x xs d =
    false_from_ne_true _ (λ t. elim (in_cons_cases same_name name_is_exact y x ys t) [
      | inl e ↦ both_ways _ d.0 (subst (λ (z : Name). IsTrue (has same_name (ys ++ x ∷ xs) z)) (sym e) (in_middle ys x xs))
      | inr i ↦ both_ways _ (absent ys x xs d.1) i
    ])

-- of distinct names each is kept
pub kept_distinct : (front xs : List Name) → IsDistinct same_name (front ++ xs) → kept same_name front xs ≡ front ++ xs
kept_distinct front [] d = sym (append-nil front)
kept_distinct front (x ∷ xs) d =
    kept_new same_name name_is_exact front x xs (absent front x xs d)
    ∙ kept_distinct (front ++ x ∷ []) xs (subst (λ (zs : List Name). IsDistinct same_name zs) (sym (append_assoc front (x ∷ []) xs)) d)
    ∙ append_assoc front (x ∷ []) xs
