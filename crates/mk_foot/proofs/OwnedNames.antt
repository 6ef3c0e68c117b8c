-- The names that belong to recipes, put in order one by one.
use Rattle.std.proofs.Common.{◌≡◌, Less, Equal, Greater, Ordering, ℕ, ◌+◌, ◌<◌, List, [], ◌∷◌, ◌++◌, fold, get_or, length, map, take, refl, sym, ap, ◌∙◌}
use Rattle.std.specs.BTreeSet.{insert_key}
use Rattle.std.specs.Cmp.Lexicographic.{slice_cmp}
use Rattle.std.specs.List.{AllByRecursion}
use Rattle.std.specs.List.Sorted.{IsStrictlySortedBy}
use Rattle.std.specs.Ordering.{match_ordering, nat_cmp}
use Rattle.std.proofs.lemmas.Bool.{or_left}
use Rattle.std.proofs.lemmas.List.{take_more}
use Rattle.std.proofs.lemmas.List.Folds.{list_any-append}
use Rattle.std.proofs.lemmas.List.Sums.{fold-append}
use Rattle.mk_text.proofs.Ordered.{has-in_order}
use Rattle.mk_name.specs.Names.{Name, has, same_name}
use Rattle.mk_foot.specs.Attached.{HasAll, owned_names}

abbrev pub put_among : List Name → Name → List Name
put_among = insert_key (slice_cmp nat_cmp)

module _ {R X : Type 0} (now : R → X) (c : X → X → Ordering) where
  -- what is lent goes where the name that it stands for goes
  pub lent_put : (xs : List R) (k : R) → map now (insert_key (λ a b. c (now a) (now b)) xs k) ≡ insert_key c (map now xs) (now k)
  lent_put [] k = refl
  lent_put (x ∷ xs) k = by (c (now k) (now x)) (lent_put xs k)
    where
      by : (o : Ordering) → map now (insert_key (λ a b. c (now a) (now b)) xs k) ≡ insert_key c (map now xs) (now k)
          → map now (match_ordering o (k ∷ x ∷ xs) (x ∷ xs) (x ∷ insert_key (λ a b. c (now a) (now b)) xs k))
          ≡ match_ordering o (now k ∷ now x ∷ map now xs) (now x ∷ map now xs) (now x ∷ insert_key c (map now xs) (now k))
      by Less rest = refl
      by Equal rest = refl
      by Greater rest = ap (λ ys. now x ∷ ys) rest

  lent_less : (x : R) (xs : List R) → AllByRecursion (λ b. c (now x) (now b) ≡ Less) xs → AllByRecursion (λ y. c (now x) y ≡ Less) (map now xs)
  lent_less x [] all = tt
  lent_less x (y ∷ ys) all = (all.0, lent_less x ys all.1)

  -- and stands in the order of the names
  pub lent_rise : (xs : List R) → IsStrictlySortedBy (λ a b. c (now a) (now b)) xs → IsStrictlySortedBy c (map now xs)
  unfolding IsStrictlySortedBy
  lent_rise [] rise = tt
  lent_rise (x ∷ xs) rise = (lent_less x xs rise.0, lent_rise xs rise.1)

-- one more name put among others
pub names_more : (first now new names : List Name) (n : ℕ) (x d : Name) → n < length names → now ≡ fold put_among first (take n names)
    → new ≡ put_among now x → x ≡ get_or names n d → new ≡ fold put_among first (take (n + 1) names)
names_more first now new names n x d within so_far put is =
    put ∙ ap (λ keys. put_among keys x) so_far ∙ ap (put_among (fold put_among first (take n names))) is
    ∙ sym (ap (fold put_among first) (take_more names n d within) ∙ fold-append put_among first (take n names) (get_or names n d ∷ []))

-- the names of nodes are among them
pub has_names : (names targets : List Name) → HasAll (owned_names names targets) names
has_names names targets x there =
    has-in_order (names ++ targets) x ∙ list_any-append (λ y. same_name y x) names targets ∙ or_left (has same_name names x) (has same_name targets x) there
