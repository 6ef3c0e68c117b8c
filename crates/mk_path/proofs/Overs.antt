-- Which path lies over which.
use Rattle.std.proofs.Common.{◌≡◌, ◌&&◌, ◌++◌, ◌⊎◌, ℕ, Bool, true, false, List, [], ◌∷◌, not, if◌then◌else◌, get_or, drop, sym, ap, subst, ◌∙◌, refl, inl, inr}
use Rattle.std.specs.Cmp.Lexicographic.{nat_list_eq_equiv, same_text}
use Rattle.std.proofs.lemmas.Bool.{and_from, and_parts, cases_Bool, false≢true, or_cases, or_left, or_right}
use Rattle.std.proofs.lemmas.List.Folds.{list_any-append}
use Rattle.mk_name.specs.Names.{Name, same_name, has}
use Rattle.mk_path.specs.declared.path.Path.{Path}
use Rattle.mk_path.specs.Paths.{covers, folders, same_path}
use Rattle.mk_path.specs.Laws.{Covers, IsFolderOf, IsOver}
use Rattle.mk_path.proofs.Begin.{Begins, folders_begin, own_folder}

-- of two beginnings of one list one begins with the other
meet : (xs ys more others : List Name) → xs ++ more ≡ ys ++ others → Begins xs ys ⊎ Begins ys xs
meet [] ys more others e = inr (ys, refl)
meet (x ∷ xs) [] more others e = inl (x ∷ xs, refl)
meet (x ∷ xs) (y ∷ ys) more others e =
    let first : x ≡ y = ap (λ zs. get_or zs 0 []) e in
    elim (meet xs ys more others (ap (drop 1) e)) [
      | inl longer ↦ inl (longer.0, ap (λ z. z ∷ xs) first ∙ ap (λ zs. y ∷ zs) longer.1)
      | inr shorter ↦ inr (shorter.0, ap (λ z. z ∷ ys) (sym first) ∙ ap (λ zs. x ∷ zs) shorter.1)
    ]

module _ (root : List ℕ) where
  -- the folders of a name by way of those of one of them
  folder_begun : (x t u : Name) → Begins (folders root x) (folders root t) → IsFolderOf root u t → IsFolderOf root u x
  folder_begun x t u begins inside =
      ap (λ ys. has same_name ys u) begins.1 ∙ list_any-append (λ y. same_name y u) (folders root t) begins.0
      ∙ or_left (has same_name (folders root t) u) (has same_name begins.0 u) inside

  pub folder_further : (x t u : Name) → IsFolderOf root u t → IsFolderOf root t x → IsFolderOf root u x
  folder_further x t u upper lower = folder_begun x t u (folders_begin root x t lower) upper

  pub folders_meet : (x t u : Name) → IsFolderOf root t x → IsFolderOf root u x → IsFolderOf root t u ⊎ IsFolderOf root u t
  folders_meet x t u first second =
      let one = folders_begin root x t first in
      let two = folders_begin root x u second in
      elim (meet (folders root t) (folders root u) one.0 two.0 (sym one.1 ∙ two.1)) [
        | inl longer ↦ inr (folder_begun t u u longer (own_folder root u))
        | inr shorter ↦ inl (folder_begun u t t shorter (own_folder root t))
      ]

  kinds : (a b : Bool) → (if a then b else not b) ≡ true → a ≡ b
  kinds true true h = refl
  kinds true false h = absurd (false≢true h)
  kinds false true h = absurd (false≢true h)
  kinds false false h = refl

  pub path_is : (p q : Path) → same_path p q ≡ true → p ≡ q
  path_is p q h =
      let parts = and_parts (same_name p.name q.name) (if p.tree then q.tree else not q.tree) h in
      let by_name : p ≡ record { name = q.name; tree = p.tree } = ap (λ n. record { name = n; tree = p.tree }) (same_text p.name q.name (sym parts.0)) in
      by_name ∙ ap (λ t. record { name = q.name; tree = t }) (kinds p.tree q.tree parts.1)

  kinds_same : (a : Bool) → (if a then a else not a) ≡ true
  kinds_same true = refl
  kinds_same false = refl

  path_self : (p : Path) → same_path p p ≡ true
  path_self p = and_from (same_name p.name p.name) (if p.tree then p.tree else not p.tree) (nat_list_eq_equiv.refl p.name) (kinds_same p.tree)

  -- a path over another is that path, or a tree that the other's name stands in
  over_cases : (p q : Path) → IsOver root p q → (p ≡ q) ⊎ ((p.tree ≡ true) × IsFolderOf root p.name q.name)
  over_cases p q h = elim (or_cases (same_path p q) (p.tree && covers root p q.name) h) [
    | inl same ↦ inl (path_is p q same)
    | inr above ↦
        let parts = and_parts p.tree (covers root p q.name) above in
        inr (parts.0, sym (ap (λ t. if t then has same_name (folders root q.name) p.name else same_name p.name q.name) parts.0) ∙ parts.1)
  ]

  tree_covers : (p : Path) (x : Name) → p.tree ≡ true → IsFolderOf root p.name x → Covers root p x
  tree_covers p x tree inside = ap (λ t. if t then has same_name (folders root x) p.name else same_name p.name x) tree ∙ inside

  over_from : (p q : Path) → p.tree ≡ true → IsFolderOf root p.name q.name → IsOver root p q
  over_from p q tree inside = or_right (same_path p q) (p.tree && covers root p q.name) (and_from p.tree (covers root p q.name) tree (tree_covers p q.name tree inside))

  -- a path that covers a name is a tree that it stands in, or has that name
  covers_cases : (p : Path) (x : Name) → Covers root p x → ((p.tree ≡ true) × IsFolderOf root p.name x) ⊎ ((p.tree ≡ false) × (p.name ≡ x))
  covers_cases p x h = elim (cases_Bool p.tree) [
    | inl tree ↦ inl (tree, sym (ap (λ t. if t then has same_name (folders root x) p.name else same_name p.name x) tree) ∙ h)
    | inr file ↦ inr (file, same_text p.name x (sym (sym (ap (λ t. if t then has same_name (folders root x) p.name else same_name p.name x) file) ∙ h)))
  ]

  pub over_self : (p : Path) → IsOver root p p
  over_self p = or_left (same_path p p) (p.tree && covers root p p.name) (path_self p)

  pub over_further : (p q r : Path) → IsOver root p q → IsOver root q r → IsOver root p r
  over_further p q r upper lower = elim (over_cases p q upper) [
    | inl same ↦ subst (λ (s : Path). IsOver root s r) (sym same) lower
    | inr above ↦ elim (over_cases q r lower) [
      | inl same ↦ subst (λ (s : Path). IsOver root p s) same upper
      | inr below ↦ over_from p r above.0 (folder_further r.name q.name p.name above.1 below.1)
    ]
  ]

  -- a tree over a path is one of the folders of its name
  tree_over : (p r : Path) → p.tree ≡ true → IsOver root p r → IsFolderOf root p.name r.name
  tree_over p r tree h = elim (over_cases p r h) [
    | inl same ↦ subst (λ (s : Path). IsFolderOf root p.name s.name) same (own_folder root p.name)
    | inr above ↦ above.1
  ]

  pub trees_over_one : (p q r : Path) → p.tree ≡ true → q.tree ≡ true → IsOver root p r → IsOver root q r → IsOver root p q ⊎ IsOver root q p
  trees_over_one p q r first second upper other = elim (folders_meet r.name p.name q.name (tree_over p r first upper) (tree_over q r second other)) [
    | inl inside ↦ inl (over_from p q first inside)
    | inr inside ↦ inr (over_from q p second inside)
  ]

  pub paths_of_one_name : (p q : Path) (x : Name) → Covers root p x → Covers root q x → IsOver root p q ⊎ IsOver root q p
  paths_of_one_name p q x upper other = elim (covers_cases p x upper) [
    | inl tree ↦ elim (covers_cases q x other) [
      | inl second ↦ elim (folders_meet x p.name q.name tree.1 second.1) [
        | inl inside ↦ inl (over_from p q tree.0 inside)
        | inr inside ↦ inr (over_from q p second.0 inside)
      ]
      | inr file ↦ inl (over_from p q tree.0 (subst (λ (y : Name). IsFolderOf root p.name y) (sym file.1) tree.1))
    ]
    | inr file ↦ elim (covers_cases q x other) [
      | inl second ↦ inr (over_from q p second.0 (subst (λ (y : Name). IsFolderOf root q.name y) (sym file.1) second.1))
      | inr same ↦
          let by_name : p ≡ record { name = q.name; tree = p.tree } = ap (λ n. record { name = n; tree = p.tree }) (file.1 ∙ sym same.1) in
          inl (subst (λ (s : Path). IsOver root p s) (by_name ∙ ap (λ t. record { name = q.name; tree = t }) (file.0 ∙ sym same.0)) (over_self p))
    ]
  ]

  pub covers_own_name : (p : Path) → Covers root p p.name
  covers_own_name p = elim (cases_Bool p.tree) [
    | inl tree ↦ tree_covers p p.name tree (own_folder root p.name)
    | inr file ↦ ap (λ t. if t then has same_name (folders root p.name) p.name else same_name p.name p.name) file ∙ nat_list_eq_equiv.refl p.name
  ]

  pub over_covers_name : (p q : Path) → IsOver root p q → Covers root p q.name
  over_covers_name p q h = elim (over_cases p q h) [
    | inl same ↦ subst (λ (s : Path). Covers root p s.name) same (covers_own_name p)
    | inr above ↦ tree_covers p q.name above.0 above.1
  ]

  pub over_covers : (p q : Path) (x : Name) → IsOver root p q → Covers root q x → Covers root p x
  over_covers p q x h lower = elim (over_cases p q h) [
    | inl same ↦ subst (λ (s : Path). Covers root s x) (sym same) lower
    | inr above ↦ elim (covers_cases q x lower) [
      | inl tree ↦ tree_covers p x above.0 (folder_further x q.name p.name above.1 tree.1)
      | inr file ↦ tree_covers p x above.0 (subst (λ (y : Name). IsFolderOf root p.name y) file.1 above.1)
    ]
  ]
