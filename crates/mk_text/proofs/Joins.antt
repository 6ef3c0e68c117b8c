-- Components joined by slashes, and lists that begin with others.
use Rattle.std.proofs.Common.{◌≡◌, ◌≤◌, ◌<◌, ◌+◌, ℕ, true, false, not, cond, eqb, List, [], ◌∷◌, ◌++◌, None, length, map, drop, get_or, sym, ap, ◌∙◌, append_assoc, Bor}
use Rattle.std.specs.List.{flat_map, join_with_byte}
use Rattle.std.specs.Cmp.Lexicographic.{pointwise}
use Rattle.std.proofs.lemmas.List.{append-nil, drop_all, drop_more}
use Rattle.std.proofs.lemmas.Bool.{not-true, not-false}
use Rattle.mk_text.specs.Spelling.{below}

join-cons : (x : Bor (List ℕ)) (xs : List (Bor (List ℕ))) → join_with_byte 47 (map (λ p. p.now) (x ∷ xs)) ≡ x.now ++ flat_map (λ p. 47 ∷ p.now) xs
join-cons x [] = sym (append-nil x.now)
join-cons x (y ∷ ys) = ap (λ r. x.now ++ (47 ∷ r)) (join-cons y ys)

-- the first component, and each other after a slash, are all components joined by slashes
pub joined : (parts others : List (Bor (List ℕ))) (first : Bor (List ℕ)) (before start out : List ℕ) (i : ℕ) → parts ≡ first ∷ others → start ≡ before ++ first.now → length others ≤ i → out ++ flat_map (λ x. 47 ∷ x.now) (drop i others) ≡ start ++ flat_map (λ x. 47 ∷ x.now) others → out ≡ before ++ join_with_byte 47 (map (λ x. x.now) parts)
joined parts others first before start out i is begins end whole =
    sym (append-nil out) ∙ ap (λ r. out ++ flat_map (λ x. 47 ∷ x.now) r) (sym (drop_all i others end)) ∙ whole ∙ ap (λ r. r ++ flat_map (λ x. 47 ∷ x.now) others) begins ∙ append_assoc before first.now (flat_map (λ x. 47 ∷ x.now) others) ∙ ap (λ r. before ++ r) (sym (join-cons first others)) ∙ ap (λ ps. before ++ join_with_byte 47 (map (λ x. x.now) ps)) (sym is)

module _ {R P : Type 0} (f : R → List ℕ) (g : P → List ℕ) (root : List R) (parts : List P) (i : ℕ) (r : R) (p : P) (in_root : i < length root) (in_parts : i < length parts) (r_is : r ≡ get_or root i r) (p_is : p ≡ get_or parts i p) where
  below_step : below (map f (drop i root)) (map g (drop i parts)) ≡ cond (pointwise eqb (f r) (g p)) (below (map f (drop (i + 1) root)) (map g (drop (i + 1) parts))) None
  below_step =
      ap (λ xs. below (map f xs) (map g (drop i parts))) (drop_more root i r in_root) ∙ ap (λ ys. below (map f (get_or root i r ∷ drop (i + 1) root)) (map g ys)) (drop_more parts i p in_parts) ∙ ap (λ x. cond (pointwise eqb (f x) (g (get_or parts i p))) (below (map f (drop (i + 1) root)) (map g (drop (i + 1) parts))) None) (sym r_is) ∙ ap (λ y. cond (pointwise eqb (f r) (g y)) (below (map f (drop (i + 1) root)) (map g (drop (i + 1) parts))) None) (sym p_is)

  -- where the components at one place are the same, the answer is that of what follows
  pub below_same : not (pointwise eqb (f r) (g p)) ≡ false → below (map f (drop i root)) (map g (drop i parts)) ≡ below (map f (drop (i + 1) root)) (map g (drop (i + 1) parts))
  below_same same = below_step ∙ ap (λ b. cond b (below (map f (drop (i + 1) root)) (map g (drop (i + 1) parts))) None) (not-false _ same)

  -- where they are not, there is none
  pub below_other : not (pointwise eqb (f r) (g p)) ≡ true → below (map f (drop i root)) (map g (drop i parts)) ≡ None
  below_other other = below_step ∙ ap (λ b. cond b (below (map f (drop (i + 1) root)) (map g (drop (i + 1) parts))) None) (not-true _ other)
