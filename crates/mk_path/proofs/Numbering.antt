-- Numbers of paths: their places among those in order.
use Rattle.std.proofs.Common.{ℕ, ◌≡◌, ◌<◌, ◌&&◌, List, [], ◌∷◌, length, get_or, map, Bool, true, false, not, if◌then◌else◌, Contains, Bor, Ordering, Less, Equal, Err, refl, sym, ap, ap₂, ◌∙◌, arith}
use Rattle.std.specs.Cmp.{IsTotalOrder}
use Rattle.std.specs.List.{AllByRecursion, list_any}
use Rattle.std.specs.List.Sorted.{IsBinarySearchResult, IsSearchInRange, IsStrictlySortedBy}
use Rattle.std.specs.Ordering.{is_eq}
use Rattle.std.proofs.lemmas.Bool.{and_parts, both_ways}
use Rattle.std.proofs.lemmas.Cmp.{on_total}
use Rattle.std.proofs.lemmas.List.{get_or-map, length-map, get_or_default}
use Rattle.std.proofs.lemmas.List.Folds.{list_any_at}
use Rattle.mk_name.proofs.Names.{name_is_exact}
use Rattle.mk_path.specs.declared.path.Path.{Path}
use Rattle.mk_path.specs.Paths.{path_cmp, same_path, path_at}
use Rattle.mk_path.proofs.Halves.{search_reports}
use Rattle.mk_path.proofs.PathOrder.{path_cmp_total, path_ties}

-- the path behind a reference
abbrev pub behind : Bor Path → Path
behind p = p.now

-- references are ordered as what stands behind them
abbrev pub order : Bor Path → Bor Path → Ordering
order p q = path_cmp p.now q.now

pub order_total : IsTotalOrder order
order_total = on_total behind path_cmp_total

kinds_same : (a b : Bool) → (if a then b else not b) ≡ true → a ≡ b
kinds_same true b same = sym same
kinds_same false true same = same
kinds_same false false same = refl

pub same_path_is : (p q : Path) → same_path p q ≡ true → p ≡ q
same_path_is p q same =
    let parts = and_parts _ _ same in
    ap₂ (λ (n : List ℕ) (t : Bool). record { name = n; tree = t }) (name_is_exact.equal p.name q.name parts.0) (kinds_same p.tree q.tree parts.1)

kind_itself : (a : Bool) → (if a then a else not a) ≡ true
kind_itself true = refl
kind_itself false = refl

pub same_itself : (p : Path) → same_path p p ≡ true
same_itself p = ap₂ (λ a b. a && b) (name_is_exact.itself p.name) (kind_itself p.tree)

pub equal_path_is : (p q : Path) → path_cmp p q ≡ Equal → p ≡ q
equal_path_is p q equal = same_path_is p q (path_ties p q ∙ ap is_eq equal)

-- references and what stands behind them are in the same order
all_map : (p : Bor Path) (xs : List (Bor Path)) → AllByRecursion (λ y. path_cmp p.now y ≡ Less) (map behind xs) → AllByRecursion (λ y. order p y ≡ Less) xs
all_map p [] all = tt
all_map p (x ∷ xs) all = (all.0, all_map p xs all.1)

pub rise_before : (xs : List (Bor Path)) → IsStrictlySortedBy path_cmp (map behind xs) → IsStrictlySortedBy order xs
unfolding IsStrictlySortedBy
rise_before [] rise = tt
rise_before (x ∷ xs) rise = (all_map x xs rise.0, rise_before xs rise.1)

-- the path at a place
pub behind_at : (paths : List (Bor Path)) (place : ℕ) (d : Bor Path) → place < length paths → path_at (map behind paths) place ≡ (get_or paths place d).now
behind_at paths place d below = get_or-map behind paths place d (record { name = []; tree = false }) below

pub found_is : (paths : List (Bor Path)) (asked : Bor Path) (place : ℕ) → place < length paths → path_cmp (get_or paths place asked).now asked.now ≡ Equal
    → path_at (map behind paths) place ≡ asked.now
found_is paths asked place below equal = behind_at paths place asked below ∙ equal_path_is _ asked.now equal

-- a path that is there is found
pub not_missed : (paths : List (Bor Path)) (asked : Bor Path) (i : ℕ) → IsStrictlySortedBy path_cmp (map behind paths) → IsSearchInRange (Err i) (length paths)
    → IsBinarySearchResult (λ y. order y asked) paths (Err i) → Contains (map behind paths) asked.now → ⊥
not_missed paths asked i rise inside found there =
    let k = there.0 in
    let below : k < length paths = omega (arith, there.1, length-map paths behind) in
    let is : (get_or paths k asked).now ≡ asked.now = sym (get_or-map behind paths k asked asked.now below) ∙ there.2 in
    let same : same_path (get_or paths k asked).now asked.now ≡ true = ap (λ (p : Path). same_path p asked.now) is ∙ same_itself asked.now in
    let has : list_any (λ (y : Bor Path). same_path y.now asked.now) paths ≡ true = list_any_at (λ (y : Bor Path). same_path y.now asked.now) paths k asked below same in
    both_ways _ refl (search_reports order order_total (λ p q. same_path p.now q.now) (λ p q. path_ties p.now q.now) paths asked (Err i) (rise_before paths rise) inside found ∙ has)

-- a reference to a path of these
pub record Behind (paths : List (Bor Path)) (p : Path) : Type 0 where
  pub ref : Bor Path
  pub there : Contains paths ref
  pub is : ref.now ≡ p

pub behind_some : (paths : List (Bor Path)) (p : Path) → Contains (map behind paths) p → Behind paths p
behind_some [] p there = absurd (omega (arith, there.1))
behind_some (x ∷ xs) p there =
    let k = there.0 in
    let below : k < length (x ∷ xs) = omega (arith, there.1, length-map (x ∷ xs) behind) in
    record {
      ref = get_or (x ∷ xs) k x;
      there = (k, below, get_or_default (x ∷ xs) k (get_or (x ∷ xs) k x) x below);
      is = sym (get_or-map behind (x ∷ xs) k x p below) ∙ there.2;
    }
