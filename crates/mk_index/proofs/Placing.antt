-- Places of numbers that nodes have.
use Rattle.std.proofs.Common.{ℕ, suc, ◌≡◌, ◌<◌, ◌≤◌, ◌+◌, ◌↔◌, Bool, true, false, List, [], ◌∷◌, ◌++◌, length, get_or, map, slice_index, Option, Some, None, IfNone, All, Contains, Less, refl, sym, ap, ap₂, subst, ◌∙◌, inl, inr, arith}
use Rattle.std.specs.Prelude.{slice_get}
use Rattle.std.specs.List.{AllByRecursion, Any}
use Rattle.std.specs.List.Sorted.{IsStrictlyIncreasing, IsStrictlySortedBy}
use Rattle.std.proofs.lemmas.Bool.{cases_lt, cases_order}
use Rattle.std.proofs.lemmas.List.{get_or_append_left, get_or_default, get_or_push, length-map, length_push, map_push}
use Rattle.std.proofs.lemmas.List.Elements.{All-map, All-push, All-tail, All-weaker, Contains-append_left, Contains-push, Contains-push_cases}
use Rattle.std.proofs.lemmas.List.Folds.{Any-from_list_any, list_any-from_Any}
use Rattle.std.proofs.lemmas.List.Kept.{AllPairs-from_increasing}
use Rattle.std.proofs.lemmas.Map.Keys.{Less-from_sorted}
use Rattle.std.proofs.lemmas.Option.{get_or_from_slice_get, slice_get_within}
use Rattle.mk_index.specs.declared.index.Place.{Place}
use Rattle.mk_path.specs.declared.path.Path.{Path}
use Rattle.mk_index.specs.Index.{Index, IsIndexed, IsWhole, holders_of, numbers_of}
use Rattle.mk_index.specs.Meets.{AreBelow}
use Rattle.mk_path.specs.Paths.{is_over, path_cmp, path_at}
use Rattle.mk_index.specs.Placed.{ArePlaced, IsPlaced, number_at}
use Rattle.mk_index.specs.Ups.{IsHeldOver, IsUp, number_count}
use Rattle.mk_index.specs.Uses.{AreAllPlaces, IsPlaceOf, Uses, has_over, path_of, paths_of}
use Rattle.mk_index.proofs.Overlaps.{path_there, place_within, row_is}
use Rattle.mk_index.proofs.Reaching.{number_in, over_path, path_in, read_within, up_of_paths, written_within}

-- the first of a row
pub first_there : (row : List ℕ) (n : ℕ) → Some n ≡ slice_get row 0 → Contains row n
first_there row n is = (0, slice_get_within row 0 n (sym is), get_or_from_slice_get row 0 n n (sym is))

pub none_there : (row : List ℕ) → None ≡ slice_get row 0 → (n : ℕ) → Contains row n → ⊥
none_there [] is n there = omega (arith, there.1)
none_there (x ∷ xs) is n there = let no : None ≡ Some x = is in cc

-- where a number would stand among others that rise, it stands if it is there
pub stands_there : (numbers : List ℕ) (place t : ℕ) → IsStrictlyIncreasing numbers → AreBelow numbers place t
    → ((k : ℕ) → place ≤ k → k < length numbers → t ≤ slice_index numbers k) → Contains numbers t → (place < length numbers) × (get_or numbers place 0 ≡ t)
stands_there numbers place t rise below rest there =
    let k = there.0 in
    let is : get_or numbers k 0 ≡ t = get_or_default numbers k 0 t there.1 ∙ there.2 in
    elim (cases_order k place) [
      | inl same ↦ (omega (arith, there.1, same), subst (λ i. get_or numbers i 0 ≡ t) same is)
      | inr (inl less) ↦ absurd (omega (arith, below k less, is))
      | inr (inr more) ↦
          let least = rest place (omega arith) (omega (arith, more, there.1)) in
          let up = AllPairs-from_increasing numbers rise place k 0 more there.1 in
          absurd (omega (arith, least, up, is))
    ]

-- a greater number behind numbers that rise
pub rise_push : (numbers : List ℕ) (n : ℕ) → IsStrictlyIncreasing numbers → All (λ m. m < n) numbers → IsStrictlyIncreasing (numbers ++ n ∷ [])
rise_push numbers n rise below = λ k inside.
    let long = length_push numbers n in
    let here : k < length numbers = omega (arith, inside, long) in
    let first : get_or (numbers ++ n ∷ []) k 0 ≡ get_or numbers k 0 = get_or_append_left numbers (n ∷ []) 0 k here in
    elim (cases_lt (k + 1) (length numbers)) [
      | inl less ↦
          let second : get_or (numbers ++ n ∷ []) (k + 1) 0 ≡ get_or numbers (k + 1) 0 = get_or_append_left numbers (n ∷ []) 0 (k + 1) less in
          let up = rise k less in
          omega (arith, up, first, second)
      | inr least ↦
          let second : get_or (numbers ++ n ∷ []) (k + 1) 0 ≡ n = get_or_push numbers n 0 (k + 1) (omega (arith, least, inside, long)) in
          let up = below k 0 here in
          omega (arith, up, first, second)
    ]

module _ (index : Index) where
  pub placed_none : ArePlaced index [] 0
  placed_none = record {
    few = omega arith;
    placed = λ k d below. absurd (omega (arith, below));
    below = λ k d below. absurd (omega (arith, below));
    rise = λ k below. absurd (omega (arith, below));
    all = λ t n written below there. absurd (omega (arith, below));
  }

  pub placed_more : (places : List Place) (place : Place) (t : ℕ) → ArePlaced index places t → IsPlaced index place → number_at index place ≡ t → ArePlaced index (places ++ place ∷ []) (t + 1)
  placed_more places place t are placed is =
      let at = number_at index in
      let pushed : map at (places ++ place ∷ []) ≡ map at places ++ at place ∷ [] = map_push at places place in
      record {
        few = omega (arith, are.few, length_push places place);
        placed = All-push (IsPlaced index) places place are.placed placed;
        below = All-push (λ p. at p < t + 1) places place (All-weaker (λ p. at p < t) (λ p. at p < t + 1) (λ p less. omega (arith, less)) places are.below) (omega (arith, is));
        rise = subst IsStrictlyIncreasing (sym pushed)
            (rise_push (map at places) (at place) are.rise (All-map (λ m. m < at place) at places (All-weaker (λ p. at p < t) (λ p. at p < at place) (λ p less. omega (arith, less, is)) places are.below)));
        all = λ u n written below there. subst (λ (ns : List ℕ). Contains ns u) (sym pushed) (elim (cases_order u t) [
          | inl same ↦ subst (Contains (map at places ++ at place ∷ [])) (is ∙ sym same) (Contains-push (map at places) (at place))
          | inr (inl less) ↦ Contains-append_left (map at places) (at place ∷ []) u (are.all u n written less there)
          | inr (inr more) ↦ absurd (omega (arith, below, more))
        ]);
      }

  pub placed_same : (places : List Place) (t : ℕ) → ArePlaced index places t → ((n : ℕ) (written : Bool) → Contains (numbers_of index n written) t → ⊥) → ArePlaced index places (t + 1)
  placed_same places t are none = record {
    few = omega (arith, are.few);
    placed = are.placed;
    below = All-weaker (λ p. number_at index p < t) (λ p. number_at index p < t + 1) (λ p less. omega (arith, less)) places are.below;
    rise = are.rise;
    all = λ u n written below there. elim (cases_order u t) [
      | inl same ↦ absurd (none n written (subst (Contains (numbers_of index n written)) same there))
      | inr (inl less) ↦ are.all u n written less there
      | inr (inr more) ↦ absurd (omega (arith, below, more))
    ];
  }

-- the paths of numbers that rise rise
after : (paths : List Path) (n : ℕ) (numbers : List ℕ) → IsStrictlySortedBy path_cmp paths → ((k : ℕ) → k < length numbers → n < get_or numbers k 0) → All (λ m. m < length paths) numbers
    → AllByRecursion (λ y. path_cmp (path_at paths n) y ≡ Less) (map (path_at paths) numbers)
after paths n [] rise less within = tt
after paths n (m ∷ ms) rise less within = (
  Less-from_sorted path_cmp paths n m (record { name = []; tree = false }) rise (less 0 (omega arith)) (within 0 0 (omega arith)),
  after paths n ms rise (λ k below. less (suc k) (omega (arith, below))) (All-tail (λ k. k < length paths) m ms within),
)

rising : (paths : List Path) (numbers : List ℕ) → IsStrictlySortedBy path_cmp paths → ((i k : ℕ) → i < k → k < length numbers → get_or numbers i 0 < get_or numbers k 0)
    → All (λ m. m < length paths) numbers → IsStrictlySortedBy path_cmp (map (path_at paths) numbers)
unfolding IsStrictlySortedBy
rising paths [] rise pairs within = tt
rising paths (n ∷ ns) rise pairs within = (
  after paths n ns rise (λ k below. pairs 0 (suc k) (omega arith) (omega (arith, below))) (All-tail (λ k. k < length paths) n ns within),
  rising paths ns rise (λ i k before below. pairs (suc i) (suc k) (omega (arith, before)) (omega (arith, below))) (All-tail (λ k. k < length paths) n ns within),
)

module _ (uses : Uses) (index : Index) (whole : IsWhole index) (is : IsIndexed uses index) where
  number_within : (n q : ℕ) (written : Bool) → Contains (numbers_of index n written) q → q < length is.paths
  number_within n q true there = written_within uses index whole is n q there
  number_within n q false there = read_within uses index whole is n q there

  place_path : (place : Place) → IsPlaced index place → path_of uses place ≡ path_at is.paths (number_at index place)
  place_path place placed = path_there uses index whole is (record { number = number_at index place; place = place }) (record { node = placed.node; within = placed.within; is = refl })

  number_there : (place : Place) → IsPlaced index place → Contains (numbers_of index place.node place.written) (number_at index place)
  number_there place placed =
      let row = numbers_of index place.node place.written in
      (place.place, placed.within, get_or_default row place.place (number_at index place) 0 placed.within)

  paths_are : (places : List Place) → All (IsPlaced index) places → map (path_of uses) places ≡ map (path_at is.paths) (map (number_at index) places)
  paths_are [] placed = refl
  paths_are (p ∷ ps) placed = ap₂ (λ (x : Path) (xs : List Path). x ∷ xs) (place_path p (placed 0 p (omega arith))) (paths_are ps (All-tail (IsPlaced index) p ps placed))

  pub all_placed : (places : List Place) → ArePlaced index places (number_count index.ups) → AreAllPlaces uses places
  all_placed places are =
      let at = number_at index in
      let same = paths_are places are.placed in
      let within : All (λ m. m < length is.paths) (map at places) = All-map (λ m. m < length is.paths) at places (All-weaker (λ p. at p < number_count index.ups) (λ p. at p < length is.paths) (λ p less. omega (arith, less, is.numbered)) places are.below) in
      record {
        within = All-weaker (IsPlaced index) (λ p. p.place < length (paths_of uses p.node p.written))
            (λ p placed. place_within uses index whole is (record { number = at p; place = p }) (record { node = placed.node; within = placed.within; is = refl })) places are.placed;
        rise = subst (IsStrictlySortedBy path_cmp) (sym same) (rising is.paths (map at places) is.rise (λ i k before below. AllPairs-from_increasing (map at places) are.rise i k 0 before below) within);
        all = λ n written p there.
            let t = number_in (path_at is.paths) (numbers_of index n written) (paths_of uses n written) p (row_is uses index whole is n written) there in
            let found = are.all t.number n written (omega (arith, number_within n t.number written t.there, is.numbered)) t.there in
            subst (λ (ps : List Path). Contains ps p) (sym same) (subst (Contains (map (path_at is.paths) (map at places))) t.is (path_in (path_at is.paths) (map at places) (map (path_at is.paths) (map at places)) t.number refl found));
      }

  -- who holds a number over that of a place has a path over the path there
  pub held_has : (place : Place) (written : Bool) (n : ℕ) → IsPlaced index place
      → IsHeldOver index.ups (holders_of index written) (number_at index place ∷ []) n ↔ (has_over uses n written (path_of uses place) ≡ true)
  held_has place written n placed =
      let q = number_at index place in
      let q_within = number_within place.node q place.written (number_there place placed) in
      let own = place_path place placed in (
        λ held.
            let there = (whole.hold written held.upper n).0 held.holds in
            let same : q ≡ held.lower = elim (Contains-push_cases [] q held.lower held.there) [ inl none ↦ absurd (omega (arith, none.1)) | inr same ↦ same ] in
            let over = over_path uses index whole is held.upper q (number_within n held.upper written there) q_within (subst (λ k. IsUp index.ups held.upper k) (sym same) held.over) in
            let path = path_in (path_at is.paths) (numbers_of index n written) (paths_of uses n written) held.upper (row_is uses index whole is n written) there in
            list_any-from_Any (λ p. is_over uses.root p (path_of uses place)) (paths_of uses n written)
            (path.0, path_at is.paths held.upper, path.1, path.2, subst (λ (p : Path). is_over uses.root (path_at is.paths held.upper) p ≡ true) (sym own) over),
        λ has.
            let any : Any (λ p. is_over uses.root p (path_of uses place) ≡ true) (paths_of uses n written) = Any-from_list_any (λ p. is_over uses.root p (path_of uses place)) (paths_of uses n written) has in
            let t = number_in (path_at is.paths) (numbers_of index n written) (paths_of uses n written) any.1 (row_is uses index whole is n written) (any.0, any.2, any.3) in
            record {
              lower = q;
              there = Contains-push [] q;
              upper = t.number;
              over = up_of_paths uses index whole is t.number q any.1 (path_of uses place) (number_within n t.number written t.there) q_within t.is (sym own) any.4;
              holds = (whole.hold written t.number n).1 t.there;
            },
      )

-- a number that stands neither among what is written nor among what is read stands nowhere
pub none_of : (index : Index) (t : ℕ) (found : Option Place) → ((n : ℕ) → Contains (numbers_of index n true) t → ⊥) → IfNone found ((n : ℕ) → Contains (numbers_of index n false) t → ⊥)
    → IfNone found ((n : ℕ) (written : Bool) → Contains (numbers_of index n written) t → ⊥)
none_of index t (Some place) first second = tt
none_of index t None first second = apart
  where
    apart : (n : ℕ) (written : Bool) → Contains (numbers_of index n written) t → ⊥
    apart n true = first n
    apart n false = second n

pub nowhere : (index : Index) (t : ℕ) (found : Option Place) → IfNone found ((n : ℕ) (written : Bool) → Contains (numbers_of index n written) t → ⊥)
    → ((place : Place) → found ≡ Some place → ⊥) → (n : ℕ) (written : Bool) → Contains (numbers_of index n written) t → ⊥
nowhere index t (Some place) none other = absurd (other place refl)
nowhere index t None none other = none

-- a place of a node's paths is one of its numbers
pub placed_of : (uses : Uses) (index : Index) → IsIndexed uses index → (place : Place) → place.node < length index.reads → IsPlaceOf uses place → IsPlaced index place
placed_of uses index is place node within = record { node = node; within = omega (arith, within, ap length (row place.written), length-map (numbers_of index place.node place.written) (path_at is.paths)) }
  where
    row : (written : Bool) → map (path_at is.paths) (numbers_of index place.node written) ≡ paths_of uses place.node written
    row true = is.writes place.node
    row false = is.reads place.node
