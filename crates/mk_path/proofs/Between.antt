-- What a miss of a search by halves rules out: the longer beginnings of the text that was looked for.
use Rattle.std.proofs.Common.{ℕ, zero, suc, ◌≡◌, ◌<◌, ◌≤◌, ◌-◌, ◌+◌, false, Bor, List, [], ◌∷◌, length, map, take, drop, get_or, ltb, Ordering, Less, Equal, Greater, Err, refl, sym, ap, ap₂, subst, ◌∙◌, inl, inr, arith}
use Rattle.std.specs.Cmp.{nat_cmp_total}
use Rattle.std.specs.Cmp.Lexicographic.{slice_cmp}
use Rattle.std.specs.List.Sorted.{IsBinarySearchResult, IsNonDecreasingBy, IsSearchInRange, IsStrictlySortedBy}
use Rattle.std.specs.Ordering.{bool_cmp, nat_cmp, ordering_index, ordering_reverse, ordering_then}
use Rattle.std.proofs.lemmas.Bool.{cases_lt, cases_order, cond-false, cond-true, eq-eqb, false_from_ne_true, le-ltb, lt-ltb}
use Rattle.std.proofs.lemmas.List.{drop-take, get_or_default, length-map, length-take, length-take-le, take-take}
use Rattle.std.proofs.lemmas.List.Folds.{list_any_none}
use Rattle.std.proofs.lemmas.Map.Keys.{Less-from_sorted}
use Rattle.mk_name.specs.Names.{Name, has}
use Rattle.mk_path.specs.declared.path.Path.{Path}
use Rattle.mk_path.specs.Covering.{tree_at}
use Rattle.mk_path.specs.Paths.{path_cmp, same_path, path_at}
use Rattle.mk_path.proofs.Halves.{rises}
use Rattle.mk_path.proofs.Numbering.{behind, behind_at, same_path_is}
use Rattle.mk_path.proofs.PathOrder.{path_cmp_total}

-- texts that begin alike have the same parts there
pub same_range : (low n k : ℕ) (a b : Name) → low + n ≤ k → take k a ≡ take k b → take n (drop low a) ≡ take n (drop low b)
same_range low n k a b within same =
    sym (drop-take low n a) ∙ ap (drop low) (sym (take-take (low + n) k a within) ∙ ap (take (low + n)) same ∙ take-take (low + n) k b within) ∙ drop-take low n b

-- a text does not stand after another
abbrev pub NotAfter : Name → Name → Type 0
NotAfter x y = slice_cmp nat_cmp x y ≡ Greater → ⊥

nat_above : (a b : ℕ) → b < a → nat_cmp a b ≡ Greater
nat_above a b more =
    let less : nat_cmp b a ≡ Less = cond-true (ltb b a) Less _ (lt-ltb b a more) in
    nat_cmp_total.antisymm a b ∙ ap ordering_reverse less

pub nat_tied : (a b : ℕ) → a ≡ b → nat_cmp a b ≡ Equal
nat_tied a b same = cond-false (ltb a b) Less _ (le-ltb a b (omega (arith, same))) ∙ cond-true _ Equal Greater (eq-eqb a b same)

-- a text between a beginning of another and that other begins so too
pub begins_between : (k : ℕ) (x p : Name) → k ≤ length x → NotAfter (take k x) p → NotAfter p x → take k p ≡ take k x
begins_between zero x p within low high = refl
begins_between (suc k) [] p within low high = absurd (omega (arith, within))
begins_between (suc k) (a ∷ x) [] within low high = absurd (low refl)
begins_between (suc k) (a ∷ x) (b ∷ p) within low high = elim (cases_order a b) [
  | inl same ↦
      ap₂ (λ (c : ℕ) (cs : Name). c ∷ cs) (sym same) (begins_between k x p (omega (arith, within))
      (λ after. low (ap (λ o. ordering_then o (slice_cmp nat_cmp (take k x) p)) (nat_tied a b same) ∙ after))
      (λ after. high (ap (λ o. ordering_then o (slice_cmp nat_cmp p x)) (nat_tied b a (sym same)) ∙ after)))
  | inr (inl less) ↦ absurd (high (ap (λ o. ordering_then o (slice_cmp nat_cmp p x)) (nat_above b a less)))
  | inr (inr more) ↦ absurd (low (ap (λ o. ordering_then o (slice_cmp nat_cmp (take k x) p)) (nat_above a b more)))
]

-- a beginning does not stand after its text
pub begins_before : (k : ℕ) (x : Name) → NotAfter (take k x) x
begins_before zero [] = λ after. cc
begins_before zero (a ∷ x) = λ after. cc
begins_before (suc k) [] = λ after. cc
begins_before (suc k) (a ∷ x) = λ after. begins_before k x (sym (ap (λ o. ordering_then o (slice_cmp nat_cmp (take k x) x)) (nat_tied a a refl)) ∙ after)

pub not_after_itself : (x : Name) → NotAfter x x
not_after_itself [] = λ after. cc
not_after_itself (a ∷ x) = λ after. not_after_itself x (sym (ap (λ o. ordering_then o (slice_cmp nat_cmp x x)) (nat_tied a a refl)) ∙ after)

-- what the order of paths says of their names
pub less_names : (p q : Path) → path_cmp p q ≡ Less → NotAfter p.name q.name
less_names p q less = λ after.
    let more : path_cmp p q ≡ Greater = ap (λ o. ordering_then o (bool_cmp p.tree q.tree)) after in
    let no : Less ≡ Greater = sym less ∙ more in cc

pub then_tied : (o : Ordering) → ordering_then o Equal ≡ Greater → o ≡ Greater
then_tied Less h = h
then_tied Equal h = h
then_tied Greater h = refl

-- where the tree of a text would stand among paths that have none
pub record IsMiss (paths : List Path) (text : Name) (place : ℕ) : Type 0 where
  pub within : place ≤ length paths
  pub before : (j : ℕ) → j < place → path_cmp (path_at paths j) (tree_at text) ≡ Less
  pub after : (j : ℕ) → place ≤ j → j < length paths → path_cmp (path_at paths j) (tree_at text) ≡ Greater

-- a bound of the beginnings that the text has in common with the path before that place, if there is one
pub record IsBound (paths : List Path) (text : Name) (place most : ℕ) : Type 0 where
  pub bound : 0 < place → (k : ℕ) → k ≤ length (path_at paths (place - 1)).name → k ≤ length text → take k (path_at paths (place - 1)).name ≡ take k text → k ≤ most

pub bound_from : (paths : List Path) (text : Name) (place most : ℕ) (z : Name) → (0 < place → (path_at paths (place - 1)).name ≡ z)
    → ((k : ℕ) → k ≤ length z → k ≤ length text → take k z ≡ take k text → k ≤ most) → IsBound paths text place most
bound_from paths text place most z is bound = record {
  bound = λ some. subst (λ (x : Name). (k : ℕ) → k ≤ length x → k ≤ length text → take k x ≡ take k text → k ≤ most) (sym (is some)) bound;
}

pub no_bound : (paths : List Path) (text : Name) (place most : ℕ) → place ≡ 0 → IsBound paths text place most
no_bound paths text place most none = record { bound = λ some. absurd (omega (arith, some, none)) }

module _ (paths : List Path) (rise : IsStrictlySortedBy path_cmp paths) (text : Name) (place : ℕ) (miss : IsMiss paths text place) where
  nothing : Path
  nothing = record { name = []; tree = false }

  -- the text is not there
  pub missed : (j : ℕ) → j < length paths → path_at paths j ≡ tree_at text → ⊥
  missed j inside is =
      let low : (o : Ordering) → path_cmp (path_at paths j) (tree_at text) ≡ o → o ≡ Less → ⊥ = λ o e less.
      less_free (sym (ap (λ p. path_cmp p (tree_at text)) is) ∙ e ∙ less) in
      elim (cases_lt j place) [
        | inl below ↦ low Less (miss.before j below) refl
        | inr above ↦ not_after_itself text (then_tied _ (sym (ap (λ p. path_cmp p (tree_at text)) is) ∙ miss.after j above inside))
      ]
    where
      less_free : path_cmp (tree_at text) (tree_at text) ≡ Less → ⊥
      less_free less =
          let again : path_cmp (tree_at text) (tree_at text) ≡ Greater = path_cmp_total.antisymm (tree_at text) (tree_at text) ∙ ap ordering_reverse less in
          let no : Less ≡ Greater = sym less ∙ again in cc

  -- nor is a beginning that is longer than the bound
  pub none_longer : (most : ℕ) → IsBound paths text place most → (k : ℕ) → most < k → k ≤ length text → (j : ℕ) → j < length paths
      → path_at paths j ≡ tree_at (take k text) → ⊥
  none_longer most bound k longer within j inside is = elim (cases_lt j place) [
    | inl below ↦
        let p = path_at paths (place - 1) in
        let name : (path_at paths j).name ≡ take k text = ap (λ (q : Path). q.name) is in
        let low : NotAfter (take k text) p.name = elim (cases_order j (place - 1)) [
          | inl same ↦ subst (λ (z : Name). NotAfter (take k text) z) (sym name ∙ ap (λ i. (path_at paths i).name) same) (not_after_itself (take k text))
          | inr (inl less) ↦ subst (λ (z : Name). NotAfter z p.name) name
              (less_names (path_at paths j) p (Less-from_sorted path_cmp paths j (place - 1) (record { name = []; tree = false }) rise less (omega (arith, below, miss.within))))
          | inr (inr more) ↦ absurd (omega (arith, below, more))
        ] in
        let high : NotAfter p.name text = less_names p (tree_at text) (miss.before (place - 1) (omega (arith, below))) in
        let same = begins_between k text p.name within low high in
        let long : k ≤ length p.name = omega (arith, ap length same, length-take-le k text within, length-take k p.name) in
        let most_is = bound.bound (omega (arith, below)) k long within same in
        absurd (omega (arith, longer, most_is))
    | inr above ↦ begins_before k text (then_tied _ (sym (ap (λ p. path_cmp p (tree_at text)) is) ∙ miss.after j above inside))
  ]

-- a search by halves that misses gives that place
pub miss_from : (paths : List Path) (text : Name) (place : ℕ) → IsStrictlySortedBy path_cmp paths → IsSearchInRange (Err place) (length paths)
    → IsBinarySearchResult (λ y. path_cmp y (tree_at text)) paths (Err place) → IsMiss paths text place
miss_from paths text place rise inside found =
    let d : Path = record { name = []; tree = false } in
    let parts = found (rises path_cmp path_cmp_total paths (tree_at text) rise) in
    record {
      within = inside;
      before = λ j less. parts.0 j d (omega arith) less;
      after = λ j more below. parts.1 j d more below;
    }

-- and so among references
behind_rises : (trees : List (Bor Path)) (asked : Path) → IsStrictlySortedBy path_cmp (map behind trees)
    → IsNonDecreasingBy (λ (t : Bor Path). ordering_index (path_cmp t.now asked)) trees
behind_rises trees asked rise i j d le inside =
    let first = ap (λ p. ordering_index (path_cmp p asked)) (behind_at trees i d (omega (arith, le, inside))) in
    let second = ap (λ p. ordering_index (path_cmp p asked)) (behind_at trees j d inside) in
    let less = rises path_cmp path_cmp_total (map behind trees) asked rise i j (record { name = []; tree = false }) le (omega (arith, inside, length-map trees behind)) in
    omega (arith, first, second, less)

pub miss_behind : (trees : List (Bor Path)) (t : Bor Path) (text : Name) (place : ℕ) → IsStrictlySortedBy path_cmp (map behind trees) → IsSearchInRange (Err place) (length trees)
    → IsBinarySearchResult (λ (y : Bor Path). path_cmp y.now (tree_at text)) trees (Err place) → IsMiss (map behind trees) text place
miss_behind trees t text place rise inside found =
    let parts = found (behind_rises trees (tree_at text) rise) in
    record {
      within = omega (arith, inside, length-map trees behind);
      before = λ j less. ap (λ p. path_cmp p (tree_at text)) (behind_at trees j t (omega (arith, less, inside))) ∙ parts.0 j t (omega arith) less;
      after = λ j more below. let here : j < length trees = omega (arith, below, length-map trees behind) in
          ap (λ p. path_cmp p (tree_at text)) (behind_at trees j t here) ∙ parts.1 j t more here;
    }

-- what stands at no place is not there
pub has_not : (paths : List Path) (p : Path) → ((j : ℕ) → j < length paths → path_at paths j ≡ p → ⊥) → has same_path paths p ≡ false
has_not paths p none = list_any_none (λ q. same_path q p) paths (λ k d within. false_from_ne_true (same_path (get_or paths k d) p) (λ same.
    none k within (get_or_default paths k (record { name = []; tree = false }) d within ∙ same_path_is (get_or paths k d) p same)))
