-- The folders of a folder are the first of the folders of what stands in it.
use Rattle.std.proofs.Common.{◌≡◌, ◌&&◌, ◌||◌, ◌++◌, ℕ, Bool, true, false, eqb, cond, List, [], ◌∷◌, codes, map, sym, ap, subst, ◌∙◌, refl, inl, inr, ◌⊎◌, append_assoc}
use Rattle.std.specs.List.{join_with_byte}
use Rattle.std.specs.Cmp.Lexicographic.{nat_list_eq_equiv, same_text}
use Rattle.std.proofs.lemmas.Bool.{cases_Bool, cond-true, cond-false, eqb-true, false≢true, or_cases, or_left}
use Rattle.std.proofs.lemmas.List.{append-nil}
use Rattle.std.proofs.lemmas.List.Folds.{list_any-append}
use Rattle.mk_name.specs.Names.{Name, same_name, has}
use Rattle.mk_path.specs.Paths.{absolute_folders, cuts, folders, over_root}
use Rattle.mk_path.specs.Covering.{inner_folders, own_folders, proper_cuts}
use Rattle.mk_path.proofs.Folders.{cuts_end, own_end, without_end}
use Rattle.mk_path.proofs.Found.{any_folders}
use Rattle.mk_path.proofs.Tests.{any_alike, any_map, any_nowhere, map_append}
use Rattle.mk_text.specs.Spelling.{components, is_absolute, reduced, without_last}

-- one list begins with the other
abbrev pub Begins : List Name → List Name → Type 0
Begins xs ys = (rest : List Name) × (xs ≡ ys ++ rest)

-- a name stands in a list
abbrev In : List Name → Name → Type 0
In xs t = has same_name xs t ≡ true

-- behind one byte stand only names that begin with it
map_in : (b : ℕ) (xs : List Name) (t : Name) → In (map (λ y. b ∷ y) xs) t → (ts : Name) × (t ≡ b ∷ ts) × In xs ts
map_in b xs [] h =
    absurd (false≢true (sym (any_map (λ y. same_name y []) (λ y. b ∷ y) xs ∙ any_nowhere (λ y. same_name (b ∷ y) []) (λ _. refl) xs) ∙ h))
map_in b xs (c ∷ ts) h = elim (cases_Bool (eqb b c)) [
  | inl same ↦ (
    ts,
    ap (λ d. d ∷ ts) (sym (eqb-true b c same)),
    any_alike (λ y. same_name y ts) (λ y. same_name (b ∷ y) (c ∷ ts)) (λ y. ap (λ e. e && same_name y ts) (sym same)) xs
        ∙ sym (any_map (λ y. same_name y (c ∷ ts)) (λ y. b ∷ y) xs) ∙ h,
  )
  | inr other ↦
      absurd (false≢true (sym (any_map (λ y. same_name y (c ∷ ts)) (λ y. b ∷ y) xs
      ∙ any_nowhere (λ y. same_name (b ∷ y) (c ∷ ts)) (λ y. ap (λ e. e && same_name y ts) other) xs) ∙ h))
]

-- the cuts before a slash begin with those of each of them
proper_begin : (x t : Name) → In (proper_cuts x) t → Begins (proper_cuts x) (cuts t)
proper_begin [] t h = absurd (false≢true h)
proper_begin (b ∷ bs) t h = elim (split (eqb b 47) h) [
  | inl first ↦
      let later = map (λ y. b ∷ y) (proper_cuts bs) in
      subst (λ (u : Name). Begins (proper_cuts (b ∷ bs)) (cuts u)) first.1 (later, cond-true (eqb b 47) ([] ∷ later) later first.0)
  | inr further ↦
      let found = map_in b (proper_cuts bs) t further in
      let rest = proper_begin bs found.0 found.2 in
      let after = map (λ y. b ∷ y) rest.0 in
      let whole = ap (map (λ y. b ∷ y)) rest.1 ∙ map_append (λ y. b ∷ y) (cuts found.0) rest.0 in
      subst (λ (u : Name). Begins (proper_cuts (b ∷ bs)) (cuts u)) (sym found.1) (after, joined (eqb b 47) found.0 after whole)
]
  where
    split : (s : Bool) → In (cond s ([] ∷ map (λ y. b ∷ y) (proper_cuts bs)) (map (λ y. b ∷ y) (proper_cuts bs))) t
        → ((s ≡ true) × ([] ≡ t)) ⊎ In (map (λ y. b ∷ y) (proper_cuts bs)) t
    split true k = elim (or_cases (same_name [] t) (has same_name (map (λ y. b ∷ y) (proper_cuts bs)) t) k) [
      | inl here ↦ inl (refl, same_text [] t (sym here))
      | inr later ↦ inr later
    ]
    split false k = inr k

    joined : (s : Bool) (ts : Name) (after : List Name) → map (λ y. b ∷ y) (proper_cuts bs) ≡ map (λ y. b ∷ y) (cuts ts) ++ after
        → cond s ([] ∷ map (λ y. b ∷ y) (proper_cuts bs)) (map (λ y. b ∷ y) (proper_cuts bs))
        ≡ cond s ([] ∷ map (λ y. b ∷ y) (cuts ts)) (map (λ y. b ∷ y) (cuts ts)) ++ after
    joined true ts after e = ap (λ ys. [] ∷ ys) e
    joined false ts after e = e

-- and so do all cuts
pub cuts_begin : (x t : Name) → In (cuts x) t → Begins (cuts x) (cuts t)
cuts_begin x t h = elim (or_cases (has same_name (proper_cuts x) t) (same_name x t || false) (sym (list_any-append (λ y. same_name y t) (proper_cuts x) (x ∷ [])) ∙ ap (λ ys. has same_name ys t) (sym (cuts_end x)) ∙ h)) [
  | inl before ↦
      let rest = proper_begin x t before in
      (rest.0 ++ x ∷ [], cuts_end x ∙ ap (λ ys. ys ++ x ∷ []) rest.1 ∙ append_assoc (cuts t) rest.0 (x ∷ []))
  | inr last ↦ elim (or_cases (same_name x t) false last) [
    | inl same ↦ subst (λ (u : Name). Begins (cuts x) (cuts u)) (same_text x t (sym same)) ([], sym (append-nil (cuts x)))
    | inr never ↦ absurd (false≢true never)
  ]
]

-- below the top stand only names that begin with a slash
slash_begin : (xs : List Name) → ((ts : Name) → In xs ts → Begins xs (cuts ts)) → (t : Name) → In (codes "/" ∷ map (λ y. 47 ∷ y) xs) t
    → (is_absolute t ≡ true) × Begins (codes "/" ∷ map (λ y. 47 ∷ y) xs) (absolute_folders t)
slash_begin xs begins t h = elim (or_cases (same_name (codes "/") t) (has same_name (map (λ y. 47 ∷ y) xs) t) h) [
  | inl top ↦ subst (λ (u : Name). (is_absolute u ≡ true) × Begins (codes "/" ∷ map (λ y. 47 ∷ y) xs) (absolute_folders u)) (same_text (codes "/") t (sym top)) (refl, (map (λ y. 47 ∷ y) xs, refl))
  | inr below ↦
      let found = map_in 47 xs t below in
      subst (λ (u : Name). (is_absolute u ≡ true) × Begins (codes "/" ∷ map (λ y. 47 ∷ y) xs) (absolute_folders u)) (sym found.1) (refl, by found.0 (begins found.0 found.2))
]
  where
    by : (ts : Name) → Begins xs (cuts ts) → Begins (codes "/" ∷ map (λ y. 47 ∷ y) xs) (absolute_folders (47 ∷ ts))
    by [] rest = (map (λ y. 47 ∷ y) xs, refl)
    by (c ∷ ts) rest = (map (λ y. 47 ∷ y) rest.0, ap (λ ys. codes "/" ∷ ys) (ap (map (λ y. 47 ∷ y)) rest.1 ∙ map_append (λ y. 47 ∷ y) (cuts (c ∷ ts)) rest.0))

absolute_begin : (bs t : Name) → In (absolute_folders (47 ∷ bs)) t → (is_absolute t ≡ true) × Begins (absolute_folders (47 ∷ bs)) (absolute_folders t)
absolute_begin [] t h = slash_begin [] (λ ts none. absurd (false≢true none)) t h
absolute_begin (c ∷ cs) t h = slash_begin (cuts (c ∷ cs)) (cuts_begin (c ∷ cs)) t h

-- the folders over a root
over_of : Name → List Name
over_of top = cond (same_name top (codes "/")) [] (without_last (absolute_folders top))

over_begin : (body t : Name) → In (over_of (47 ∷ body)) t → (is_absolute t ≡ true) × Begins (over_of (47 ∷ body)) (absolute_folders t)
unfolding over_of
over_begin [] t h = absurd (false≢true h)
over_begin (c ∷ cs) t h =
    let top = 47 ∷ c ∷ cs in
    let is : without_last (codes "/" ∷ own_folders top) ≡ codes "/" ∷ inner_folders top = ap (λ ys. without_last (codes "/" ∷ ys)) (own_end top) ∙ without_end (codes "/" ∷ inner_folders top) top in
    let there = slash_begin (proper_cuts (c ∷ cs)) (proper_begin (c ∷ cs)) t (ap (λ ys. has same_name ys t) (sym is) ∙ h) in
    (there.0, (there.1.0, is ∙ there.1.1))

-- what a name spells that does not begin with a slash does not begin with one
relative_cuts : (x t : Name) → is_absolute x ≡ false → In (cuts x) t → is_absolute t ≡ false
relative_cuts [] t relative h = elim (or_cases (same_name [] t) false h) [
  | inl same ↦ subst (λ (u : Name). is_absolute u ≡ false) (same_text [] t (sym same)) refl
  | inr never ↦ absurd (false≢true never)
]
relative_cuts (b ∷ bs) t relative h =
    let found = map_in b (cuts bs) t (ap (λ ys. has same_name ys t) (sym (cond-false (eqb b 47) ([] ∷ map (λ y. b ∷ y) (cuts bs)) (map (λ y. b ∷ y) (cuts bs)) relative)) ∙ h) in
    subst (λ (u : Name). is_absolute u ≡ false) (sym found.1) relative

-- the folders of a name that does not begin with a slash
below_root : List ℕ → Name → List Name
below_root root x = over_root root ++ codes "." ∷ cond (same_name x (codes ".")) [] (cuts x)

is_below : (root : List ℕ) (x : Name) → is_absolute x ≡ false → folders root x ≡ below_root root x
unfolding below_root
is_below root x relative = cond-false (is_absolute x) (absolute_folders x) (over_root root ++ codes "." ∷ cond (same_name x (codes ".")) [] (cuts x)) relative

below_begin : (root : List ℕ) (x t : Name) → is_absolute x ≡ false → In (below_root root x) t → Begins (below_root root x) (folders root t)
unfolding below_root over_of
below_begin root x t relative h =
    let spelled = cond (same_name x (codes ".")) [] (cuts x) in
    let over = over_root root in
    elim (or_cases (has same_name over t) (has same_name (codes "." ∷ spelled) t) (sym (list_any-append (λ y. same_name y t) over (codes "." ∷ spelled)) ∙ h)) [
      | inl above ↦
          let there = over_begin (join_with_byte 47 (reduced (components root))) t above in (
            there.1.0 ++ codes "." ∷ spelled,
            ap (λ ys. ys ++ codes "." ∷ spelled) there.1.1 ∙ append_assoc (absolute_folders t) there.1.0 (codes "." ∷ spelled)
                ∙ ap (λ ys. ys ++ (there.1.0 ++ codes "." ∷ spelled)) (sym (cond-true (is_absolute t) (absolute_folders t) (below_root root t) there.0)),
          )
      | inr inside ↦ elim (or_cases (same_name (codes ".") t) (has same_name spelled t) inside) [
        | inl dot ↦ subst (λ (u : Name). Begins (over ++ codes "." ∷ spelled) (folders root u)) (same_text (codes ".") t (sym dot)) (spelled, sym (append_assoc over (codes "." ∷ []) spelled))
        | inr further ↦ elim (cases_Bool (same_name x (codes "."))) [
          | inl nothing ↦ absurd (false≢true (ap (λ ys. has same_name ys t) (sym (cond-true (same_name x (codes ".")) [] (cuts x) nothing)) ∙ further))
          | inr some ↦
              let is = cond-false (same_name x (codes ".")) [] (cuts x) some in
              let cut = ap (λ ys. has same_name ys t) (sym is) ∙ further in
              let rest = cuts_begin x t cut in
              let whole : over ++ codes "." ∷ spelled ≡ over ++ codes "." ∷ (cuts t ++ rest.0) = ap (λ ys. over ++ codes "." ∷ ys) (is ∙ rest.1) in
              elim (cases_Bool (same_name t (codes "."))) [
                | inl dot ↦ subst (λ (u : Name). Begins (over ++ codes "." ∷ spelled) (folders root u)) (sym (same_text t (codes ".") (sym dot))) (spelled, sym (append_assoc over (codes "." ∷ []) spelled))
                | inr other ↦ (
                  rest.0,
                  whole ∙ sym (append_assoc over (codes "." ∷ cuts t) rest.0)
                      ∙ ap (λ ys. (over ++ codes "." ∷ ys) ++ rest.0) (sym (cond-false (same_name t (codes ".")) [] (cuts t) other))
                      ∙ ap (λ ys. ys ++ rest.0) (sym (is_below root t (relative_cuts x t relative cut))),
                )
              ]
        ]
      ]
    ]

pub folders_begin : (root : List ℕ) (x t : Name) → In (folders root x) t → Begins (folders root x) (folders root t)
unfolding below_root
folders_begin root [] t h = below_begin root [] t refl h
folders_begin root (b ∷ bs) t h = elim (cases_Bool (eqb b 47)) [
  | inl slash ↦ subst (λ (c : ℕ). In (folders root (c ∷ bs)) t → Begins (folders root (c ∷ bs)) (folders root t)) (sym (eqb-true b 47 slash))
      (λ k.
      let there = absolute_begin bs t k in
      (there.1.0, there.1.1 ∙ ap (λ ys. ys ++ there.1.0) (sym (cond-true (is_absolute t) (absolute_folders t) (below_root root t) there.0))))
      h
  | inr other ↦
      let is = is_below root (b ∷ bs) other in
      let there = below_begin root (b ∷ bs) t other (ap (λ ys. has same_name ys t) (sym is) ∙ h) in
      (there.0, is ∙ there.1)
]

-- a name is one of its own folders
pub own_folder : (root : List ℕ) (x : Name) → In (folders root x) x
own_folder root x = any_folders (λ y. same_name y x) root x ∙ or_left _ _ (or_left (same_name x x) _ (nat_list_eq_equiv.refl x))
