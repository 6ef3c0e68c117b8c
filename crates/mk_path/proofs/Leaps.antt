-- Part of the paths in place of all of them: those behind a leap, and those before the place of a miss.
use Rattle.std.proofs.Common.{ℕ, ◌≡◌, ◌<◌, ◌≤◌, ◌+◌, ◌-◌, ◌||◌, true, false, List, [], length, take, drop, get_or, Less, Ok, Err, sym, ap, ap₂, subst, ◌∙◌, inl, inr, arith}
use Rattle.std.specs.List.Sorted.{IsBinarySearchResult, IsSearchInRange, IsStrictlySortedBy}
use Rattle.std.proofs.Math.Bool.{or-false, or-true}
use Rattle.std.proofs.lemmas.Bool.{cases_lt, cases_order}
use Rattle.std.proofs.lemmas.List.{get_or-drop, get_or-take, get_or_default, length-drop, length-take-le, take-append-drop, take-take}
use Rattle.std.proofs.lemmas.List.Folds.{list_any-append}
use Rattle.std.proofs.lemmas.Map.Keys.{Less-from_sorted, sorted_from_all_adjacent}
use Rattle.mk_name.specs.Names.{Name}
use Rattle.mk_path.specs.declared.path.Path.{Path}
use Rattle.mk_path.specs.Covering.{has_tree, tree_at}
use Rattle.mk_path.specs.Paths.{path_cmp, same_path, path_at}
use Rattle.mk_path.proofs.Between.{IsMiss, begins_before, bound_from, has_not, miss_from, none_longer, then_tied}
use Rattle.mk_path.proofs.Halves.{search_reports}
use Rattle.mk_path.proofs.PathOrder.{path_cmp_total, path_ties}

abbrev nothing : Path
nothing = record { name = []; tree = false }

-- the paths up to a place rise, and so do those from a place on
pub rise_front : (n : ℕ) (paths : List Path) → n ≤ length paths → IsStrictlySortedBy path_cmp paths → IsStrictlySortedBy path_cmp (take n paths)
rise_front n paths within rise =
    let long = length-take-le n paths within in
    sorted_from_all_adjacent path_cmp_total (take n paths) nothing (λ k inside.
    ap₂ path_cmp (get_or-take n paths k nothing (omega (arith, long, inside))) (get_or-take n paths (k + 1) nothing (omega (arith, long, inside)))
    ∙ Less-from_sorted path_cmp paths k (k + 1) nothing rise (omega arith) (omega (arith, long, inside, within)))

pub rise_back : (n : ℕ) (paths : List Path) → n ≤ length paths → IsStrictlySortedBy path_cmp paths → IsStrictlySortedBy path_cmp (drop n paths)
rise_back n paths within rise =
    let long = length-drop n paths in
    sorted_from_all_adjacent path_cmp_total (drop n paths) nothing (λ k inside.
    ap₂ path_cmp (get_or-drop n paths k nothing) (get_or-drop n paths (k + 1) nothing)
    ∙ Less-from_sorted path_cmp paths (n + k) (n + (k + 1)) nothing rise (omega arith) (omega (arith, long, inside, within)))

-- where one path stands before another, so do all that are before it
pub before_too : (paths : List Path) (p : Path) (low j : ℕ) → IsStrictlySortedBy path_cmp paths → j < low → low ≤ length paths
    → path_cmp (path_at paths (low - 1)) p ≡ Less → path_cmp (path_at paths j) p ≡ Less
before_too paths p low j rise below within less = elim (cases_order j (low - 1)) [
  | inl same ↦ ap (λ i. path_cmp (path_at paths i) p) same ∙ less
  | inr (inl lower) ↦ path_cmp_total.trans (path_at paths j) (path_at paths (low - 1)) p
      (Less-from_sorted path_cmp paths j (low - 1) nothing rise lower (omega (arith, below, within))) less
  | inr (inr more) ↦ absurd (omega (arith, below, more))
]

-- a miss among the paths from a place on is one among all, where those before it stand before the text
pub miss_within : (paths : List Path) (text : Name) (low place : ℕ) → low ≤ length paths → ((j : ℕ) → j < low → path_cmp (path_at paths j) (tree_at text) ≡ Less)
    → IsMiss (drop low paths) text place → IsMiss paths text (low + place)
miss_within paths text low place inside less miss =
    let long = length-drop low paths in
    let at : (j : ℕ) → low ≤ j → path_at paths j ≡ path_at (drop low paths) (j - low) =
    λ j more. let is : low + (j - low) ≡ j = omega (arith, more) in sym (get_or-drop low paths (j - low) nothing ∙ ap (path_at paths) is) in
    record {
      within = omega (arith, long, inside, miss.within);
      before = λ j below. elim (cases_lt j low) [
        | inl lower ↦ less j lower
        | inr more ↦ ap (λ p. path_cmp p (tree_at text)) (at j more) ∙ miss.before (j - low) (omega (arith, below, more))
      ];
      after = λ j more below. let past : low ≤ j = omega (arith, more) in
          ap (λ p. path_cmp p (tree_at text)) (at j past) ∙ miss.after (j - low) (omega (arith, more)) (omega (arith, long, more, below));
    }

-- a search by halves among the paths from a place on
module _ (paths : List Path) (text : Name) (low : ℕ) (part : List Path) (rise : IsStrictlySortedBy path_cmp paths) (inside : low ≤ length paths) (is : part ≡ drop low paths) where
  part_rises : IsStrictlySortedBy path_cmp part
  part_rises = subst (IsStrictlySortedBy path_cmp) (sym is) (rise_back low paths inside rise)

  pub missed_in_part : ((j : ℕ) → j < low → path_cmp (path_at paths j) (tree_at text) ≡ Less) → (place : ℕ) → IsSearchInRange (Err place) (length part)
      → IsBinarySearchResult (λ y. path_cmp y (tree_at text)) part (Err place) → IsMiss paths text (low + place)
  missed_in_part less place within found =
      miss_within paths text low place inside less (subst (λ (ps : List Path). IsMiss ps text place) is (miss_from part text place part_rises within found))

  pub found_in_part : (i : ℕ) → IsSearchInRange (Ok i) (length part) → IsBinarySearchResult (λ y. path_cmp y (tree_at text)) part (Ok i) → has_tree paths text ≡ true
  found_in_part i within found =
      let here = search_reports path_cmp path_cmp_total same_path path_ties part (tree_at text) (Ok i) part_rises within found in
      ap (λ ps. has_tree ps text) (sym (take-append-drop low paths)) ∙ list_any-append (λ q. same_path q (tree_at text)) (take low paths) (drop low paths)
      ∙ ap (λ ps. has_tree (take low paths) text || has_tree ps text) (sym is) ∙ ap (λ b. has_tree (take low paths) text || b) (sym here) ∙ or-true (has_tree (take low paths) text)

-- what stands nowhere from a place on is there just where it is before that place
pub left_before : (paths : List Path) (n : ℕ) (x : Name) → ((j : ℕ) → n ≤ j → j < length paths → path_at paths j ≡ tree_at x → ⊥)
    → has_tree (take n paths) x ≡ has_tree paths x
left_before paths n x none =
    let long = length-drop n paths in
    let back : has_tree (drop n paths) x ≡ false =
    has_not (drop n paths) (tree_at x) (λ j inside is. none (n + j) (omega arith) (omega (arith, long, inside)) (sym (get_or-drop n paths j nothing) ∙ is)) in
    sym (ap (λ ps. has_tree ps x) (sym (take-append-drop n paths)) ∙ list_any-append (λ q. same_path q (tree_at x)) (take n paths) (drop n paths)
    ∙ ap (λ b. has_tree (take n paths) x || b) back ∙ or-false (has_tree (take n paths) x))

-- no beginning of a text stands behind the place where it is missed
pub none_behind : (paths : List Path) (text : Name) (place k j : ℕ) → IsMiss paths text place → place ≤ j → j < length paths → path_at paths j ≡ tree_at (take k text) → ⊥
none_behind paths text place k j miss more inside is =
    begins_before k text (then_tied _ (sym (ap (λ p. path_cmp p (tree_at text)) is) ∙ miss.after j more inside))

-- so all of its beginnings are left before that place
pub left_place : (paths : List Path) (text : Name) (place k : ℕ) → IsMiss paths text place → has_tree (take place paths) (take k text) ≡ has_tree paths (take k text)
left_place paths text place k miss = left_before paths place (take k text) (λ j more inside is. none_behind paths text place k j miss more inside is)

module _ (paths : List Path) (text : Name) (place most : ℕ) (near : Name) (p : Path) (miss : IsMiss paths text place) (some : 0 < place)
    (is : near ≡ (get_or paths (place - 1) p).name) (bound : (k : ℕ) → k ≤ length near → k ≤ length text → take k near ≡ take k text → k ≤ most) where
  near_is : (path_at paths (place - 1)).name ≡ near
  near_is = ap (λ (q : Path). q.name) (get_or_default paths (place - 1) nothing p (omega (arith, some, miss.within))) ∙ sym is

  -- a longer beginning than what the text has in common with the path before that place is not there
  pub none_past : IsStrictlySortedBy path_cmp paths → (k : ℕ) → most < k → k ≤ length text → has_tree paths (take k text) ≡ false
  none_past rise k more within = has_not paths _ (none_longer paths rise text place miss most (bound_from paths text place most near (λ _. near_is) bound) k more within)

  -- and the beginnings are left before that path, where its name is longer than that
  pub left_before_near : most < length near → (k : ℕ) → k ≤ length text → has_tree (take (place - 1) paths) (take k text) ≡ has_tree paths (take k text)
  left_before_near less k within = left_before paths (place - 1) (take k text) (λ j more inside at. elim (cases_lt j place) [
    | inl below ↦
        let last : j ≡ place - 1 = omega (arith, more, below) in
        let begins : near ≡ take k text = sym near_is ∙ ap (λ i. (path_at paths i).name) (sym last) ∙ ap (λ (q : Path). q.name) at in
        let long : length near ≡ k = ap length begins ∙ length-take-le k text within in
        let most_is = bound k (omega (arith, long)) within (ap (take k) begins ∙ take-take k k text (omega arith)) in
        absurd (omega (arith, long, less, most_is))
    | inr behind ↦ none_behind paths text place k j miss behind inside at
  ])
