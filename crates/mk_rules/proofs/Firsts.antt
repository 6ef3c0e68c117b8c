-- Lists in which each name stands once, and which names stand in them.
use Rattle.std.proofs.Common.{◌≡◌, ℕ, Bool, true, false, ◌||◌, List, [], ◌∷◌, ◌++◌, if◌then◌else◌, refl, sym, ◌∙◌, ap, length, take, get_or, ◌+◌, ◌<◌, arith}
use lib.Pointwise.{bytes_decides}
use Rattle.std.proofs.lemmas.Bool.{true≢false}
use Rattle.std.proofs.lemmas.List.{take_more}
use Rattle.std.proofs.lemmas.List.Folds.{list_any-append}
use Rattle.std.specs.Cmp.{IsEquivalence}
use Rattle.std.proofs.lemmas.Map.Keys.{IsDistinct-push}
use Rattle.std.specs.List.{IsDistinct, list_any}
use Rattle.indexmap.specs.IndexSet.{insert_key}
use Rattle.mk_name.specs.Names.{Name, same_name, has, kept, firsts}

-- two names that are the same are equal
pub same_name-true : (a b : Name) → same_name a b ≡ true → a ≡ b
same_name-true a b h = (bytes_decides a b).0 h

or_absorb : (a b c : Bool) → (b ≡ true → a ≡ true) → (a || c) ≡ (a || (b || c))
or_absorb true b c h = refl
or_absorb false true c h = absurd (true≢false (sym (h refl)))
or_absorb false false c h = refl

or_regroup : (a b c : Bool) → ((a || (b || false)) || c) ≡ (a || (b || c))
or_regroup true b c = refl
or_regroup false true c = refl
or_regroup false false c = refl

pub or_none : (a : Bool) → a ≡ (a || false)
or_none true = refl
or_none false = refl

module _ {X : Type 0} (same : X → X → Bool) (laws : IsEquivalence same) where
  -- which of the two is compared with which does not matter
  pub has-flip : (xs : List X) (x : X) → has same xs x ≡ list_any (same x) xs
  has-flip [] x = refl
  has-flip (y ∷ ys) x =
      let head : same y x ≡ same x y = laws.symm y x in
      let tail : has same ys x ≡ list_any (same x) ys = has-flip ys x in
      cc

  -- the same stand in it
  pub has-congr : (xs : List X) (x y : X) → same x y ≡ true → has same xs x ≡ has same xs y
  has-congr [] x y h = refl
  has-congr (z ∷ zs) x y h =
      let head : same z x ≡ same z y = laws.symm z x ∙ laws.congr x y z h ∙ laws.symm y z in
      let tail : has same zs x ≡ has same zs y = has-congr zs x y h in
      cc

  -- one more at the end
  pub kept-append : (front xs ys : List X) → kept same front (xs ++ ys) ≡ kept same (kept same front xs) ys
  kept-append front [] ys = refl
  kept-append front (x ∷ xs) ys = kept-append (if has same front x then front else front ++ x ∷ []) xs ys

  -- as an ordered set takes it
  pub kept-insert : (front : List X) (x : X) → kept same front (x ∷ []) ≡ insert_key same front x
  kept-insert front x = ap (λ b. if b then front else front ++ x ∷ []) (has-flip front x)

  pub firsts-push : (xs : List X) (x : X) → firsts same (xs ++ x ∷ []) ≡ insert_key same (firsts same xs) x
  firsts-push xs x = kept-append [] xs (x ∷ []) ∙ kept-insert (kept same [] xs) x

  -- what an ordered set has it does not take again
  pub insert_key-present : (keys : List X) (x : X) → list_any (same x) keys ≡ true → keys ≡ insert_key same keys x
  insert_key-present keys x h = sym (ap (λ b. if b then keys else keys ++ x ∷ []) h)

  -- a step of a loop that takes a list into an ordered set
  pub kept_more : (front keys new xs : List X) (i : ℕ) (d : X) → i < length xs → keys ≡ kept same front (take i xs)
      → new ≡ insert_key same keys (get_or xs i d) → new ≡ kept same front (take (i + 1) xs)
  kept_more front keys new xs i d within before step =
      step
      ∙ ap (λ l. insert_key same l (get_or xs i d)) before
      ∙ sym (ap (kept same front) (take_more xs i d within) ∙ kept-append front (take i xs) (get_or xs i d ∷ []) ∙ kept-insert (kept same front (take i xs)) (get_or xs i d))

  -- no two that are kept are the same
  kept-distinct : (front xs : List X) → IsDistinct same front → IsDistinct same (kept same front xs)
  kept-distinct front [] d = d
  kept-distinct front (x ∷ xs) d = by (has same front x) refl (λ f. kept-distinct f xs)
    where
      by : (b : Bool) → has same front x ≡ b → ((f : List X) → IsDistinct same f → IsDistinct same (kept same f xs))
          → IsDistinct same (kept same (if b then front else front ++ x ∷ []) xs)
      by true e rest = rest front d
      by false e rest = rest (front ++ x ∷ []) (IsDistinct-push laws front x d (sym (has-flip front x) ∙ e))

  pub firsts-distinct : (xs : List X) → IsDistinct same (firsts same xs)
  unfolding IsDistinct
  firsts-distinct xs = kept-distinct [] xs tt

  -- what stands in the front or in the rest stands in what is kept
  pub has-kept : (front xs : List X) (x : X) → has same (kept same front xs) x ≡ (has same front x || has same xs x)
  has-kept front [] x = or_none (has same front x)
  has-kept front (y ∷ ys) x = by (has same front y) refl (λ f. has-kept f ys x)
    where
      by : (b : Bool) → has same front y ≡ b → ((f : List X) → has same (kept same f ys) x ≡ (has same f x || has same ys x))
          → has same (kept same (if b then front else front ++ y ∷ []) ys) x ≡ (has same front x || (same y x || has same ys x))
      by true e rest = rest front ∙ or_absorb _ _ _ (λ h. sym (has-congr front y x h) ∙ e)
      by false e rest =
          rest (front ++ y ∷ [])
          ∙ ap (λ b. b || has same ys x) (list_any-append (λ z. same z x) front (y ∷ []))
          ∙ or_regroup (has same front x) (same y x) (has same ys x)

  pub has-firsts : (xs : List X) (x : X) → has same (firsts same xs) x ≡ has same xs x
  has-firsts xs x = has-kept [] xs x

-- fewer than two names are each the first
pub firsts_short : (xs : List Name) → length xs < 2 → xs ≡ firsts same_name xs
firsts_short [] h = refl
firsts_short (x ∷ []) h = refl
firsts_short (x ∷ y ∷ xs) h = absurd (omega (arith, h))
