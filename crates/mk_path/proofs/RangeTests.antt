-- The ranges of byte order that a path covers.
use Rattle.std.proofs.Common.{◌≡◌, ◌&&◌, ◌||◌, ◌++◌, ℕ, suc, zero, Bool, true, false, not, cond, eqb, ltb, List, [], ◌∷◌, None, Some, Ordering, Less, Equal, Greater, codes, length, take, drop, map, min, refl, sym, ap, ◌∙◌, arith, inl, inr}
use Rattle.std.specs.Cmp.{unsigned_ties}
use Rattle.std.specs.Cmp.Lexicographic.{nat_list_eq_equiv, pointwise, slice_cmp}
use Rattle.std.specs.List.{list_any}
use Rattle.std.specs.Ordering.{is_eq, is_lt, nat_cmp, ordering_then}
use Rattle.std.proofs.lemmas.Bool.{cases_order, cond-true, cond-false, eq-eqb, eqb-true, le-ltb, lt-ltb, ne_eqb}
use Rattle.std.proofs.lemmas.Cmp.{nat_eq_equiv}
use Rattle.mk_name.specs.Names.{Name, same_name, has}
use Rattle.mk_path.specs.Covering.{inner_folders, proper_cuts, tree_at}
use Rattle.mk_path.specs.Paths.{covers}
use Rattle.mk_path.specs.Ranges.{goes_on, in_tree, is_before, is_between, is_inside, is_over_names}
use Rattle.mk_path.proofs.Found.{any_folders}
use Rattle.mk_path.proofs.Tests.{any_map, any_nowhere}
use Rattle.mk_text.specs.Spelling.{is_absolute, top_of}

-- the comparison with a text that is made of two
pub order_cut : (x head tail : Name) (cut : ℕ) → cut ≡ min (length head) (length x)
    → ordering_then (slice_cmp nat_cmp (take cut x) head) (slice_cmp nat_cmp (drop cut x) tail) ≡ slice_cmp nat_cmp x (head ++ tail)
order_cut [] [] tail zero e = refl
order_cut [] [] tail (suc cut) e = absurd (omega (arith, e))
order_cut (d ∷ ds) [] tail zero e = refl
order_cut (d ∷ ds) [] tail (suc cut) e = absurd (omega (arith, e))
order_cut [] (c ∷ cs) tail zero e = refl
order_cut [] (c ∷ cs) tail (suc cut) e = absurd (omega (arith, e))
order_cut (d ∷ ds) (c ∷ cs) tail zero e = absurd (omega (arith, e))
order_cut (d ∷ ds) (c ∷ cs) tail (suc cut) e =
    let later = order_cut ds cs tail cut (omega (arith, e)) in
    by (nat_cmp d c) ∙ ap (ordering_then (nat_cmp d c)) later
  where
    by : (o : Ordering) → ordering_then (ordering_then o (slice_cmp nat_cmp (take cut ds) cs)) (slice_cmp nat_cmp (drop cut ds) tail)
        ≡ ordering_then o (ordering_then (slice_cmp nat_cmp (take cut ds) cs) (slice_cmp nat_cmp (drop cut ds) tail))
    by Less = refl
    by Equal = refl
    by Greater = refl

-- a range whose bounds have one head, byte by byte
step : (c d : ℕ) (cs ds low high : Name) → is_between (c ∷ cs ++ low) (Some (c ∷ cs ++ high)) (d ∷ ds) ≡ (eqb d c && is_between (cs ++ low) (Some (cs ++ high)) ds)
step c d cs ds low high = by (nat_cmp d c) ∙ ap (λ b. b && is_between (cs ++ low) (Some (cs ++ high)) ds) (sym (unsigned_ties d c))
  where
    by : (o : Ordering) → (not (is_lt (ordering_then o (slice_cmp nat_cmp ds (cs ++ low)))) && is_lt (ordering_then o (slice_cmp nat_cmp ds (cs ++ high))))
        ≡ (is_eq o && is_between (cs ++ low) (Some (cs ++ high)) ds)
    by Less = refl
    by Equal = refl
    by Greater = refl

-- nothing is lower than the empty text
none_lower : (ds : Name) → is_lt (slice_cmp nat_cmp ds []) ≡ false
none_lower [] = refl
none_lower (d ∷ ds) = refl

-- one byte and nothing more as a bound
one_byte : (c d : ℕ) (ds : Name) → is_before (c ∷ []) (d ∷ ds) ≡ ltb d c
one_byte c d ds = elim (cases_order d c) [
  | inl same ↦
      ap (λ o. is_lt (ordering_then o (slice_cmp nat_cmp ds []))) (cond-false (ltb d c) Less (cond (eqb d c) Equal Greater) (le-ltb d c (omega arith)) ∙ cond-true (eqb d c) Equal Greater (eq-eqb d c same))
      ∙ none_lower ds ∙ sym (le-ltb d c (omega arith))
  | inr (inl less) ↦
      ap (λ o. is_lt (ordering_then o (slice_cmp nat_cmp ds []))) (cond-true (ltb d c) Less (cond (eqb d c) Equal Greater) (lt-ltb d c less))
      ∙ sym (lt-ltb d c less)
  | inr (inr more) ↦
      ap (λ o. is_lt (ordering_then o (slice_cmp nat_cmp ds []))) (cond-false (ltb d c) Less (cond (eqb d c) Equal Greater) (le-ltb d c (omega (arith, more))) ∙ cond-false (eqb d c) Equal Greater (ne_eqb d c (λ e. omega (arith, more, e))))
      ∙ sym (le-ltb d c (omega (arith, more)))
]

-- the text itself
pub between_named : (t x : Name) → is_between (t ++ []) (Some (t ++ 0 ∷ [])) x ≡ same_name t x
between_named [] [] = refl
between_named [] (d ∷ ds) = one_byte 0 d ds ∙ le-ltb d 0 (omega arith)
between_named (c ∷ cs) [] = refl
between_named (c ∷ cs) (d ∷ ds) = step c d cs ds [] (0 ∷ []) ∙ ap (λ b. eqb d c && b) (between_named cs ds) ∙ ap (λ b. b && same_name cs ds) (nat_eq_equiv.symm d c)

-- a slash alone lies between itself and the next byte
only_slash : (d : ℕ) → (not (ltb d 47) && ltb d 48) ≡ eqb d 47
only_slash d = elim (cases_order d 47) [
  | inl same ↦ ap (λ b. not b && ltb d 48) (le-ltb d 47 (omega (arith, same))) ∙ lt-ltb d 48 (omega (arith, same)) ∙ sym (eq-eqb d 47 same)
  | inr (inl less) ↦ ap (λ b. not b && ltb d 48) (lt-ltb d 47 less) ∙ sym (ne_eqb d 47 (λ e. omega (arith, less, e)))
  | inr (inr more) ↦ ap (λ b. not b && ltb d 48) (le-ltb d 47 (omega (arith, more))) ∙ le-ltb d 48 (omega (arith, more)) ∙ sym (ne_eqb d 47 (λ e. omega (arith, more, e)))
]

-- all that begins with the text and a slash
pub between_going_on : (t x : Name) → is_between (t ++ 47 ∷ []) (Some (t ++ 48 ∷ [])) x ≡ goes_on t x
between_going_on [] [] = refl
between_going_on [] (d ∷ ds) = ap (λ b. not b && is_before (48 ∷ []) (d ∷ ds)) (one_byte 47 d ds) ∙ ap (λ b. not (ltb d 47) && b) (one_byte 48 d ds) ∙ only_slash d
between_going_on (c ∷ cs) [] = refl
between_going_on (c ∷ cs) (d ∷ ds) = step c d cs ds (47 ∷ []) (48 ∷ []) ∙ ap (λ b. eqb d c && b) (between_going_on cs ds)

-- all that does not begin with a slash
no_slash : (d : ℕ) → (ltb d 47 || (not (ltb d 48) && true)) ≡ not (eqb d 47)
no_slash d = elim (cases_order d 47) [
  | inl same ↦ ap (λ b. b || (not (ltb d 48) && true)) (le-ltb d 47 (omega (arith, same))) ∙ ap (λ b. not b && true) (lt-ltb d 48 (omega (arith, same))) ∙ sym (ap not (eq-eqb d 47 same))
  | inr (inl less) ↦ ap (λ b. b || (not (ltb d 48) && true)) (lt-ltb d 47 less) ∙ sym (ap not (ne_eqb d 47 (λ e. omega (arith, less, e))))
  | inr (inr more) ↦ ap (λ b. b || (not (ltb d 48) && true)) (le-ltb d 47 (omega (arith, more))) ∙ ap (λ b. not b && true) (le-ltb d 48 (omega (arith, more))) ∙ sym (ap not (ne_eqb d 47 (λ e. omega (arith, more, e))))
]

pub between_relative : (x : Name) → (is_between [] (Some (47 ∷ [])) x || is_between (48 ∷ []) None x) ≡ not (is_absolute x)
between_relative [] = refl
between_relative (d ∷ ds) =
    ap (λ b. b || (not (is_before (48 ∷ []) (d ∷ ds)) && true)) (one_byte 47 d ds) ∙ ap (λ b. ltb d 47 || (not b && true)) (one_byte 48 d ds) ∙ no_slash d

-- a text that is begun, by what follows
pub goes_on_cut : (t x : Name) → goes_on t x ≡ (pointwise eqb (take (length t) x) t && is_absolute (drop (length t) x))
goes_on_cut [] [] = refl
goes_on_cut [] (d ∷ ds) = refl
goes_on_cut (c ∷ cs) [] = refl
goes_on_cut (c ∷ cs) (d ∷ ds) =
    ap (λ b. eqb d c && b) (goes_on_cut cs ds) ∙ by (eqb d c) (pointwise eqb (take (length cs) ds) cs) (is_absolute (drop (length cs) ds))
  where
    by : (a b e : Bool) → (a && (b && e)) ≡ ((a && b) && e)
    by true b e = refl
    by false b e = refl

-- the folders that a text spells, by what it begins with
behind_has : (b c : ℕ) (xs : List Name) (ts : Name) → has same_name (map (λ y. b ∷ y) xs) (c ∷ ts) ≡ (eqb b c && has same_name xs ts)
behind_has b c xs ts = any_map (λ y. same_name y (c ∷ ts)) (λ y. b ∷ y) xs ∙ by (eqb b c)
  where
    by : (e : Bool) → list_any (λ y. e && same_name y ts) xs ≡ (e && has same_name xs ts)
    by true = refl
    by false = any_nowhere (λ y. false) (λ _. refl) xs

behind_none : (b : ℕ) (xs : List Name) → has same_name (map (λ y. b ∷ y) xs) [] ≡ false
behind_none b xs = any_map (λ y. same_name y []) (λ y. b ∷ y) xs ∙ any_nowhere (λ y. false) (λ _. refl) xs

proper_has : (x t : Name) → has same_name (proper_cuts x) t ≡ goes_on t x
proper_has [] [] = refl
proper_has [] (c ∷ cs) = refl
proper_has (b ∷ bs) [] = by (eqb b 47)
  where
    by : (s : Bool) → has same_name (cond s ([] ∷ map (λ y. b ∷ y) (proper_cuts bs)) (map (λ y. b ∷ y) (proper_cuts bs))) [] ≡ s
    by true = refl
    by false = behind_none b (proper_cuts bs)
proper_has (b ∷ bs) (c ∷ cs) = by (eqb b 47) ∙ behind_has b c (proper_cuts bs) cs ∙ ap (λ e. eqb b c && e) (proper_has bs cs)
  where
    by : (s : Bool) → has same_name (cond s ([] ∷ map (λ y. b ∷ y) (proper_cuts bs)) (map (λ y. b ∷ y) (proper_cuts bs))) (c ∷ cs)
        ≡ has same_name (map (λ y. b ∷ y) (proper_cuts bs)) (c ∷ cs)
    by true = refl
    by false = refl

inner_has : (x t : Name) → has same_name (inner_folders x) t ≡ is_inside t x
inner_has [] [] = refl
inner_has [] (c ∷ cs) = refl
inner_has (b ∷ bs) [] = behind_none b (proper_cuts bs)
inner_has (b ∷ bs) (c ∷ cs) = behind_has b c (proper_cuts bs) cs ∙ ap (λ e. eqb b c && e) (proper_has bs cs)

either_side : (a p q : Bool) → cond a p q ≡ ((p && a) || (q && not a))
either_side true true true = refl
either_side true true false = refl
either_side true false true = refl
either_side true false false = refl
either_side false true true = refl
either_side false true false = refl
either_side false false true = refl
either_side false false false = refl

-- what a tree covers
pub tree_ranges : (root : List ℕ) (t x : Name) → covers root (tree_at t) x ≡ in_tree (top_of root) t x
tree_ranges root t x =
    let top = top_of root in
    let f : Name → Bool = λ y. same_name y t in
    let slash = same_name (codes "/") t in
    let above : Bool → Bool = λ b. not (same_name top (codes "/")) && (b || slash) in
    any_folders f root x
    ∙ ap (λ b. (b || has same_name (inner_folders x) t) || cond (is_absolute x) slash (same_name (codes ".") t || above (has same_name (inner_folders top) t))) (nat_list_eq_equiv.symm x t)
    ∙ ap (λ b. (same_name t x || b) || cond (is_absolute x) slash (same_name (codes ".") t || above (has same_name (inner_folders top) t))) (inner_has x t)
    ∙ ap (λ b. (same_name t x || is_inside t x) || cond (is_absolute x) slash (same_name (codes ".") t || above b)) (inner_has top t)
    ∙ ap (λ b. (same_name t x || is_inside t x) || b) (either_side (is_absolute x) slash (is_over_names top t))
    ∙ ap (λ b. (same_name t x || is_inside t x) || ((b && is_absolute x) || (is_over_names top t && not (is_absolute x)))) (nat_list_eq_equiv.symm (codes "/") t)

-- nothing stands below a folder of no bytes
pub nothing_inside : (t : Name) → eqb (length t) 0 ≡ true → (x : Name) → is_inside t x ≡ false
nothing_inside [] e x = refl
nothing_inside (c ∷ cs) e x = absurd (omega (arith, eqb-true (length (c ∷ cs)) 0 e))
