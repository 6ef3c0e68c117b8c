-- Pairs of which only those are kept that pass a test.
use Rattle.std.proofs.Common.{ℕ, suc, zero, ◌≡◌, ◌<◌, ◌+◌, Bool, true, false, cond, not, List, [], ◌∷◌, length, filter, Contains, refl, sym, ap, subst, ◌∙◌, inl, inr, arith}
use Rattle.std.proofs.lemmas.Bool.{cases_Bool}
use Rattle.std.proofs.lemmas.List.Elements.{Contains-append_right}
use Rattle.std.proofs.lemmas.List.Kept.{IsStrictlySortedBy-filter}
use Rattle.mk_path.specs.declared.path.Path.{Path}
use Rattle.mk_path.specs.Paths.{path_at}
use Rattle.mk_proof.specs.Shapes.{pair_cmp}
use Rattle.mk_missing.specs.Finding.{AreChecked}

module _ {X : Type 0} (test : X → Bool) where
  taken : (x : X) (xs : List X) → test x ≡ true → filter test (x ∷ xs) ≡ x ∷ filter test xs
  taken x xs so = ap (λ b. cond b (x ∷ filter test xs) (filter test xs)) so

  left : (x : X) (xs : List X) → test x ≡ false → filter test (x ∷ xs) ≡ filter test xs
  left x xs nay = ap (λ b. cond b (x ∷ filter test xs) (filter test xs)) nay

  behind : (y : X) (ys : List X) (x : X) → Contains ys x → Contains (y ∷ ys) x
  behind y ys x there = Contains-append_right (y ∷ []) ys x there

  -- what passes is kept, and nothing else
  pub passes : (xs : List X) (x : X) → Contains xs x → test x ≡ true → Contains (filter test xs) x
  passes [] x there so = absurd (omega (arith, there.1))
  passes (y ∷ ys) x (zero, below, is) so =
      subst (λ (zs : List X). Contains zs x) (sym (taken y ys (ap test is ∙ so))) (0, omega arith, is)
  passes (y ∷ ys) x (suc k, below, is) so =
      let rest = passes ys x (k, omega (arith, below), is) so in
      elim (cases_Bool (test y)) [
        | inl pass ↦ subst (λ (zs : List X). Contains zs x) (sym (taken y ys pass)) (behind y (filter test ys) x rest)
        | inr nay ↦ subst (λ (zs : List X). Contains zs x) (sym (left y ys nay)) rest
      ]

  first_passed : (y : X) (ys : List X) (x : X) → test y ≡ true → (Contains (filter test ys) x → Contains ys x × (test x ≡ true)) → Contains (y ∷ filter test ys) x → Contains (y ∷ ys) x × (test x ≡ true)
  first_passed y ys x so old (zero, below, is) = ((0, omega arith, is), ap test (sym is) ∙ so)
  first_passed y ys x so old (suc k, below, is) = let rest = old (k, omega (arith, below), is) in (behind y ys x rest.0, rest.1)

  pub passed : (xs : List X) (x : X) → Contains (filter test xs) x → Contains xs x × (test x ≡ true)
  passed [] x there = absurd (omega (arith, there.1))
  passed (y ∷ ys) x there = elim (cases_Bool (test y)) [
    | inl so ↦ first_passed y ys x so (passed ys x) (subst (λ (zs : List X). Contains zs x) (taken y ys so) there)
    | inr nay ↦ let rest = passed ys x (subst (λ (zs : List X). Contains zs x) (left y ys nay) there) in (behind y ys x rest.0, rest.1)
  ]

  -- what passes and what does not are all
  pub both_parts : (xs : List X) → length (filter test xs) + length (filter (λ x. not (test x)) xs) ≡ length xs
  both_parts [] = refl
  both_parts (x ∷ xs) =
      let other = filter (λ y. not (test y)) xs in
      let rest = both_parts xs in
      elim (cases_Bool (test x)) [
        | inl so ↦
            let one = ap (λ (zs : List X). length zs) (taken x xs so) in
            let two = ap (λ b. length (cond (not b) (x ∷ other) other)) so in
            omega (arith, one, two, rest)
        | inr nay ↦
            let one = ap (λ (zs : List X). length zs) (left x xs nay) in
            let two = ap (λ b. length (cond (not b) (x ∷ other) other)) nay in
            omega (arith, one, two, rest)
      ]

-- of what was checked of all files the pairs whose files pass
pub kept_checked : (files : List Path) (Holds Fine Kept Other : ℕ → Path → Type 0) (pairs : List (ℕ × ℕ)) (test : ℕ × ℕ → Bool) (keep : Path → Bool)
    → ((k n : ℕ) → k < length files → test (k, n) ≡ keep (path_at files k)) → ((n : ℕ) (p : Path) → keep p ≡ true → Holds n p → Kept n p)
    → ((n : ℕ) (p : Path) → keep p ≡ false → Other n p) → ((n : ℕ) (p : Path) → Fine n p → Other n p) → AreChecked files Holds Fine pairs
    → AreChecked files Kept Other (filter test pairs)
kept_checked files Holds Fine Kept Other pairs test keep same put drop fine checked = record {
  rise = IsStrictlySortedBy-filter pair_cmp test pairs checked.rise;
  found = record {
    only = λ k n there.
        let at = passed test pairs (k, n) there in
        let is = checked.found.only k n at.0 in
        (is.0, put n (path_at files k) (sym (same k n is.0) ∙ at.1) is.1);
    all = λ k n below. elim (checked.found.all k n below) [
      | inr good ↦ inr (fine n (path_at files k) good)
      | inl there ↦ elim (cases_Bool (test (k, n))) [
        | inl so ↦ inl (passes test pairs (k, n) there so)
        | inr nay ↦ inr (drop n (path_at files k) (sym (same k n below) ∙ nay))
      ]
    ];
  };
}
