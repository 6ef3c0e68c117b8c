-- What the search among the folders of a name finds is what covers the name.
use Rattle.std.proofs.Common.{◌≡◌, ◌&&◌, ◌||◌, ◌++◌, ℕ, Bool, true, false, not, eqb, cond, List, [], ◌∷◌, codes, sym, ap, subst, ◌∙◌, refl, inl, inr}
use Rattle.std.specs.List.{join_with_byte, list_any}
use Rattle.std.specs.Cmp.Lexicographic.{nat_list_eq_equiv, same_text}
use Rattle.std.proofs.lemmas.Bool.{cases_Bool, cond-true, cond-false, eqb-true, and_right}
use Rattle.std.proofs.lemmas.List.Folds.{list_any-append}
use Rattle.mk_name.specs.Names.{Name, same_name, has}
use Rattle.mk_path.specs.declared.path.Path.{Path}
use Rattle.mk_path.specs.Paths.{absolute_folders, covered, covers, cuts, folders, over_root, same_path}
use Rattle.mk_path.specs.Covering.{file_at, found, has_tree, inner_folders, own_folders, tree_at}
use Rattle.mk_path.proofs.Folders.{own_end, without_end}
use Rattle.mk_path.proofs.Tests.{any_alike, any_either, any_nowhere, or_again, or_inwards, or_of_dot, or_of_name, or_swap, or_turned}
use Rattle.mk_text.specs.Spelling.{components, is_absolute, reduced, top_of, without_last}

module _ (f : Name → Bool) where
  -- some folder that the text spells passes
  abbrev pub own : Name → Bool
  own x = f x || list_any f (inner_folders x)

  abbrev pub over : Name → Bool
  over top = not (same_name top (codes "/")) && (list_any f (inner_folders top) || f (codes "/"))

  abbrev pub outer : Name → Name → Bool
  outer top x = cond (is_absolute x) (f (codes "/")) (f (codes ".") || over top)

  any_own : (x : Name) → list_any f (own_folders x) ≡ (list_any f (inner_folders x) || (f x || false))
  any_own x = ap (list_any f) (own_end x) ∙ list_any-append f (inner_folders x) (x ∷ [])

  any_absolute : (bs : Name) → list_any f (absolute_folders (47 ∷ bs)) ≡ (own (47 ∷ bs) || f (codes "/"))
  any_absolute [] = or_again (f (codes "/"))
  any_absolute (c ∷ cs) =
      let x = 47 ∷ c ∷ cs in
      ap (λ b. f (codes "/") || b) (any_own x) ∙ or_inwards (f (codes "/")) (list_any f (inner_folders x)) (f x)

  any_over : (body : Name) → list_any f (cond (same_name (47 ∷ body) (codes "/")) [] (without_last (absolute_folders (47 ∷ body)))) ≡ over (47 ∷ body)
  any_over [] = refl
  any_over (c ∷ cs) =
      let top = 47 ∷ c ∷ cs in
      ap (λ ts. list_any f (without_last (codes "/" ∷ ts))) (own_end top) ∙ ap (list_any f) (without_end (codes "/" ∷ inner_folders top) top)
      ∙ or_turned (f (codes "/")) (list_any f (inner_folders top))

  -- below the root: the folders over it, the root itself, and what the name spells
  any_below : (above : List Name) (x : Name) → cuts x ≡ own_folders x
      → list_any f (above ++ codes "." ∷ cond (same_name x (codes ".")) [] (cuts x)) ≡ (own x || (f (codes ".") || list_any f above))
  any_below above x spelled =
      let rest = cond (same_name x (codes ".")) [] (cuts x) in
      list_any-append f above (codes "." ∷ rest) ∙ elim (cases_Bool (same_name x (codes "."))) [
        | inl dot ↦
            let at : codes "." ≡ x = sym (same_text x (codes ".") (sym dot)) in
            ap (λ ts. list_any f above || (f (codes ".") || list_any f ts)) (cond-true (same_name x (codes ".")) [] (cuts x) dot)
            ∙ or_of_dot (list_any f above) (f (codes "."))
            ∙ ap (λ y. own y || (f (codes ".") || list_any f above)) at
        | inr other ↦
            ap (λ ts. list_any f above || (f (codes ".") || list_any f ts)) (cond-false (same_name x (codes ".")) [] (cuts x) other ∙ spelled)
            ∙ ap (λ b. list_any f above || (f (codes ".") || b)) (any_own x)
            ∙ or_of_name (list_any f above) (f (codes ".")) (list_any f (inner_folders x)) (f x)
      ]

  pub any_folders : (root : List ℕ) (x : Name) → list_any f (folders root x) ≡ (own x || outer (top_of root) x)
  any_folders root [] =
      any_below (over_root root) [] refl ∙ ap (λ b. own [] || (f (codes ".") || b)) (any_over (join_with_byte 47 (reduced (components root))))
  any_folders root (b ∷ bs) = elim (cases_Bool (eqb b 47)) [
    | inl slash ↦ subst (λ (c : ℕ). list_any f (folders root (c ∷ bs)) ≡ (own (c ∷ bs) || outer (top_of root) (c ∷ bs))) (sym (eqb-true b 47 slash)) (any_absolute bs)
    | inr other ↦
        let x = b ∷ bs in
        ap (list_any f) (cond-false (eqb b 47) (absolute_folders x) (over_root root ++ codes "." ∷ cond (same_name x (codes ".")) [] (cuts x)) other)
        ∙ any_below (over_root root) x (cond-false (eqb b 47) ([] ∷ own_folders x) (own_folders x) other)
        ∙ ap (λ c. own x || (f (codes ".") || c)) (any_over (join_with_byte 47 (reduced (components root))))
        ∙ ap (λ c. own x || c) (sym (cond-false (eqb b 47) (f (codes "/")) (f (codes ".") || over (top_of root)) other))
  ]

and_true : (b : Bool) → (b && true) ≡ b
and_true true = refl
and_true false = refl

-- one path covers the name where it is the name's file, or the tree of a folder of it
covers_split : (root : List ℕ) (x n : Name) (t : Bool) → let p : Path = record { name = n; tree = t } in
    covers root p x ≡ (same_path p (file_at x) || list_any (λ y. same_path p (tree_at y)) (folders root x))
covers_split root x n true =
    let under = folders root x in
    sym (ap (λ b. b || list_any (λ y. same_name n y && true) under) (and_right (same_name n x) false refl)
    ∙ any_alike (λ y. same_name n y && true) (λ y. same_name y n) (λ y. and_true (same_name n y) ∙ nat_list_eq_equiv.symm n y) under)
covers_split root x n false =
    let under = folders root x in
    sym (ap (λ b. (same_name n x && true) || b) (any_nowhere (λ y. same_name n y && false) (λ y. and_right (same_name n y) false refl) under)
    ∙ or_turned (same_name n x && true) false ∙ and_true (same_name n x))

-- and so do some paths
covered_split : (root : List ℕ) (paths : List Path) (x : Name)
    → covered root paths x ≡ (has same_path paths (file_at x) || list_any (has_tree paths) (folders root x))
covered_split root [] x = sym (any_nowhere (has_tree []) (λ _. refl) (folders root x))
covered_split root (p ∷ paths) x =
    let under = folders root x in
    let here = list_any (λ y. same_path p (tree_at y)) under in
    ap (λ b. b || covered root paths x) (covers_split root x p.name p.tree)
    ∙ ap (λ b. (same_path p (file_at x) || here) || b) (covered_split root paths x)
    ∙ or_swap (same_path p (file_at x)) here (has same_path paths (file_at x)) (list_any (has_tree paths) under)
    ∙ ap (λ b. (same_path p (file_at x) || has same_path paths (file_at x)) || b) (sym (any_either (λ y. same_path p (tree_at y)) (has_tree paths) under))

pub covered_found : (root : List ℕ) (paths : List Path) (x : Name) → covered root paths x ≡ found paths (top_of root) x
covered_found root paths x =
    covered_split root paths x ∙ ap (λ b. has same_path paths (file_at x) || b) (any_folders (has_tree paths) root x)
