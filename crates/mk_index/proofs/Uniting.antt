-- Rows of paths that rise, united.
use Rattle.std.proofs.Common.{ℕ, zero, suc, ◌≡◌, ◌<◌, ◌≤◌, ◌+◌, ◌-◌, ◌⊎◌, List, [], ◌∷◌, ◌++◌, length, get_or, take, drop, map, slice_index, Vec, All, Contains, Bor, Result, Ok, Err, OnOk, false, Ordering, Less, Equal, Greater, refl, sym, ap, ap₂, subst, ◌∙◌, inl, inr, arith, lit<}
use Rattle.std.specs.Prelude.{slice_get, unwrap_or}
use Rattle.std.specs.Global.{Global}
use Rattle.std.specs.List.{AllByRecursion, flat_map}
use Rattle.std.specs.List.Sorted.{IsStrictlySortedBy}
use Rattle.std.specs.Ordering.{ordering_reverse}
use Rattle.std.proofs.lemmas.Bool.{cases_lt}
use Rattle.std.proofs.lemmas.List.{append-nil, append_assoc, drop_at, drop-drop, drop-map, flat_map_more, get_or-drop, get_or-map, get_or_append_left, get_or_push, length-append, length-drop, length-map, length-take, length_push, map-append, map_push, take_all, take-append-drop, take_at, take-map, take_more}
use Rattle.std.proofs.lemmas.List.Elements.{All-append, All-drop, All-map, All-nil, All-push, All-take, All-tail, All-weaker, Contains-append_left, Contains-append_right, Contains-get_or, Contains-push_cases}
use Rattle.std.proofs.lemmas.Map.Keys.{Less-from_sorted}
use Rattle.std.proofs.lemmas.Option.{unwrap_or-slice_get}
use Rattle.mk_path.specs.declared.path.Path.{Path}
use Rattle.mk_index.specs.Gather.{AreBefore, AreGathered, AreSorted, IsStep, IsUnion, IsUnited, upwards}
use Rattle.mk_path.specs.Paths.{path_cmp, path_at}
use Rattle.mk_index.specs.Places.{ArePlaces, number_limit}
use Rattle.mk_path.proofs.Numbering.{behind, behind_at, equal_path_is}
use Rattle.mk_path.proofs.PathOrder.{path_cmp_total}

abbrev pub nothing : Path
nothing = record { name = []; tree = false }

-- a path behind paths that stand before it
all_put : (x p : Path) (xs : List Path) → AllByRecursion (λ y. path_cmp x y ≡ Less) xs → path_cmp x p ≡ Less → AllByRecursion (λ y. path_cmp x y ≡ Less) (xs ++ p ∷ [])
all_put x p [] all less = (less, tt)
all_put x p (y ∷ ys) all less = (all.0, all_put x p ys all.1 less)

rise_put : (ps : List Path) (p : Path) → IsStrictlySortedBy path_cmp ps → AreBefore ps p → IsStrictlySortedBy path_cmp (ps ++ p ∷ [])
unfolding IsStrictlySortedBy
rise_put [] p rise before = (tt, tt)
rise_put (x ∷ xs) p rise before = (all_put x p xs rise.0 (before 0 x (omega arith)), rise_put xs p rise.1 (All-tail (λ q. path_cmp q p ≡ Less) x xs before))

-- places stay where more paths come
map_kept : (ps more : List Path) (ns : List ℕ) → All (λ n. n < length ps) ns → map (path_at (ps ++ more)) ns ≡ map (path_at ps) ns
map_kept ps more [] within = refl
map_kept ps more (n ∷ ns) within =
    ap₂ (λ (p : Path) (qs : List Path). p ∷ qs) (get_or_append_left ps more nothing n (within 0 0 (omega arith)))
    (map_kept ps more ns (All-tail (λ m. m < length ps) n ns within))

pub places_kept : (ps more : List Path) (ns : List ℕ) (row : List Path) → ArePlaces ps ns row → ArePlaces (ps ++ more) ns row
places_kept ps more ns row places = record {
  within = λ k d below. omega (arith, places.within k d below, length-append ps more);
  are = map_kept ps more ns places.within ∙ places.are;
}

pub places_put : (ps : List Path) (p : Path) (ns : List ℕ) (row : List Path) → ArePlaces ps ns row → ArePlaces (ps ++ p ∷ []) (ns ++ length ps ∷ []) (row ++ p ∷ [])
places_put ps p ns row places =
    let kept = places_kept ps (p ∷ []) ns row places in
    record {
      within = All-push (λ n. n < length (ps ++ p ∷ [])) ns (length ps) kept.within (omega (arith, length_push ps p));
      are = map_push (path_at (ps ++ p ∷ [])) ns (length ps) ∙ ap₂ (λ (qs : List Path) (q : Path). qs ++ q ∷ []) kept.are (get_or_push ps p nothing (length ps) refl);
    }

pub places_long : (ps : List Path) (ns : List ℕ) (row : List Path) → ArePlaces ps ns row → length ns ≡ length row
places_long ps ns row places = sym (length-map ns (path_at ps)) ∙ ap length places.are

-- one path more of a row is taken
taken_more : (row ps : List Path) (p : Path) (ns : List ℕ) → ArePlaces ps ns (take (length ns) row) → length ns < length row → p ≡ path_at row (length ns)
    → ArePlaces (ps ++ p ∷ []) (ns ++ length ps ∷ []) (take (length (ns ++ length ps ∷ [])) row)
taken_more row ps p ns places below is =
    let one : take (length (ns ++ length ps ∷ [])) row ≡ take (length ns) row ++ p ∷ [] =
    ap (λ (k : ℕ). take k row) (length_push ns (length ps)) ∙ take_more row (length ns) nothing below ∙ ap (λ (q : Path). take (length ns) row ++ q ∷ []) (sym is) in
    subst (λ (taken : List Path). ArePlaces (ps ++ p ∷ []) (ns ++ length ps ∷ []) taken) (sym one) (places_put ps p ns (take (length ns) row) places)

left_more : (row ps : List Path) (p : Path) (i k : ℕ) → IsStrictlySortedBy path_cmp row → AreBefore ps p → p ≡ path_at row i → k ≡ i + 1 → k < length row
    → AreBefore (ps ++ p ∷ []) (path_at row k)
left_more row ps p i k rise before is next below =
    let next_path = path_at row k in
    let less : path_cmp p next_path ≡ Less = subst (λ (q : Path). path_cmp q next_path ≡ Less) (sym is) (Less-from_sorted path_cmp row i k nothing rise (omega (arith, next)) below) in
    All-push (λ q. path_cmp q next_path ≡ Less) ps p
    (All-weaker (λ q. path_cmp q p ≡ Less) (λ q. path_cmp q next_path ≡ Less) (λ q h. path_cmp_total.trans q p next_path h less) ps before) less

only_more : (first second ps : List Path) (p : Path) (i : ℕ) → ((q : Path) → Contains ps q → Contains first q ⊎ Contains second q) → i < length first → p ≡ path_at first i
    → (q : Path) → Contains (ps ++ p ∷ []) q → Contains first q ⊎ Contains second q
only_more first second ps p i only below is q there = elim (Contains-push_cases ps p q there) [
  | inl old ↦ only q old
  | inr same ↦ inl (subst (Contains first) (sym is ∙ same) (Contains-get_or first i nothing below))
]

pub add_first : (first second ps : List Path) (p : Path) (fs ss : List ℕ) → IsStrictlySortedBy path_cmp first → IsUnited first second ps fs ss
    → p ≡ path_at first (length fs) → length fs < length first → (length ss < length second → path_cmp p (path_at second (length ss)) ≡ Less)
    → length (ps ++ p ∷ []) < number_limit → IsUnited first second (ps ++ p ∷ []) (fs ++ length ps ∷ []) ss
add_first first second ps p fs ss rise united is below less few =
    let before : AreBefore ps p = subst (AreBefore ps) (sym is) (united.first_left below) in
    record {
      rise = rise_put ps p united.rise before;
      few = few;
      first_places = taken_more first ps p fs united.first_places below is;
      second_places = places_kept ps (p ∷ []) ss (take (length ss) second) united.second_places;
      first_left = left_more first ps p (length fs) (length (fs ++ length ps ∷ [])) rise before is (length_push fs (length ps));
      second_left = λ left. All-push (λ q. path_cmp q (path_at second (length ss)) ≡ Less) ps p (united.second_left left) (less left);
      only = only_more first second ps p (length fs) united.only below is;
    }

turn : {A B : Type 0} → A ⊎ B → B ⊎ A
turn (inl a) = inr a
turn (inr b) = inl b

turned : (first second ps : List Path) (fs ss : List ℕ) → IsUnited first second ps fs ss → IsUnited second first ps ss fs
turned first second ps fs ss united = record {
  rise = united.rise;
  few = united.few;
  first_places = united.second_places;
  second_places = united.first_places;
  first_left = united.second_left;
  second_left = united.first_left;
  only = λ p there. turn (united.only p there);
}

pub add_second : (first second ps : List Path) (p : Path) (fs ss : List ℕ) → IsStrictlySortedBy path_cmp second → IsUnited first second ps fs ss
    → p ≡ path_at second (length ss) → length ss < length second → (length fs < length first → path_cmp p (path_at first (length fs)) ≡ Less)
    → length (ps ++ p ∷ []) < number_limit → IsUnited first second (ps ++ p ∷ []) fs (ss ++ length ps ∷ [])
add_second first second ps p fs ss rise united is below less few =
    turned second first (ps ++ p ∷ []) (ss ++ length ps ∷ []) fs
    (add_first second first ps p ss fs rise (turned first second ps fs ss united) is below less few)

pub add_both : (first second ps : List Path) (p : Path) (fs ss : List ℕ) → IsStrictlySortedBy path_cmp first → IsStrictlySortedBy path_cmp second
    → IsUnited first second ps fs ss → p ≡ path_at first (length fs) → p ≡ path_at second (length ss) → length fs < length first → length ss < length second
    → length (ps ++ p ∷ []) < number_limit → IsUnited first second (ps ++ p ∷ []) (fs ++ length ps ∷ []) (ss ++ length ps ∷ [])
add_both first second ps p fs ss first_rise second_rise united first_is second_is first_below second_below few =
    let before : AreBefore ps p = subst (AreBefore ps) (sym first_is) (united.first_left first_below) in
    record {
      rise = rise_put ps p united.rise before;
      few = few;
      first_places = taken_more first ps p fs united.first_places first_below first_is;
      second_places = taken_more second ps p ss united.second_places second_below second_is;
      first_left = left_more first ps p (length fs) (length (fs ++ length ps ∷ [])) first_rise before first_is (length_push fs (length ps));
      second_left = left_more second ps p (length ss) (length (ss ++ length ps ∷ [])) second_rise before second_is (length_push ss (length ps));
      only = only_more first second ps p (length fs) united.only first_below first_is;
    }

-- nothing is taken
pub united_none : (first second : List Path) → IsUnited first second [] [] []
unfolding IsStrictlySortedBy
united_none first second = record {
  rise = tt;
  few = lit< tt;
  first_places = record { within = All-nil (λ n. n < 0); are = refl };
  second_places = record { within = All-nil (λ n. n < 0); are = refl };
  first_left = λ left. All-nil (λ q. path_cmp q (path_at first 0) ≡ Less);
  second_left = λ left. All-nil (λ q. path_cmp q (path_at second 0) ≡ Less);
  only = λ p there. absurd (omega (arith, there.1));
}

-- all is taken
pub united_all : (first second ps : List Path) (fs ss : List ℕ) → IsUnited first second ps fs ss → length first ≤ length fs → length second ≤ length ss
    → IsUnion first second ps fs ss
united_all first second ps fs ss united first_end second_end = record {
  rise = united.rise;
  few = united.few;
  first_places = subst (λ (taken : List Path). ArePlaces ps fs taken) (take_all (length fs) first first_end) united.first_places;
  second_places = subst (λ (taken : List Path). ArePlaces ps ss taken) (take_all (length ss) second second_end) united.second_places;
  only = united.only;
}

-- of two paths that are left the lower one is next
step_of : (first second : List Path) (i j : ℕ) (o : Ordering) → i < length first → j < length second → o ≡ path_cmp (path_at first i) (path_at second j) → IsStep first second i j o
step_of first second i j Less first_below second_below is = (first_below, λ left. sym is)
step_of first second i j Greater first_below second_below is =
    (second_below, λ left. path_cmp_total.antisymm (path_at second j) (path_at first i) ∙ ap ordering_reverse (sym is))
step_of first second i j Equal first_below second_below is = (first_below, second_below, equal_path_is (path_at first i) (path_at second j) (sym is))

pub step_behind : (first second : List (Bor Path)) (i j : ℕ) (p q : Bor Path) (o : Ordering) → i < length first → j < length second → p ≡ get_or first i p → q ≡ get_or second j q
    → o ≡ path_cmp p.now q.now → IsStep (map behind first) (map behind second) i j o
step_behind first second i j p q o first_below second_below first_is second_is is =
    let first_path : p.now ≡ path_at (map behind first) i = ap behind first_is ∙ sym (behind_at first i p first_below) in
    let second_path : q.now ≡ path_at (map behind second) j = ap behind second_is ∙ sym (behind_at second j q second_below) in
    step_of (map behind first) (map behind second) i j o (omega (arith, first_below, length-map first behind)) (omega (arith, second_below, length-map second behind))
    (is ∙ ap₂ path_cmp first_path second_path)

-- what one put leads to
pub run_ok : {X E : Type 0} {P Q R T : Type 0} (r : Result X E) → OnOk r P → OnOk r Q → OnOk r R → (P → Q → R → T) → OnOk r T
run_ok (Ok x) p q r k = k p q r
run_ok (Err e) p q r k = tt

pub put_ok : {X E : Type 0} {P Q R S T : Type 0} (r : Result X E) → OnOk r P → OnOk r Q → OnOk r R → OnOk r S → (P → Q → R → S → T) → OnOk r T
put_ok (Ok x) p q r s k = k p q r s
put_ok (Err e) p q r s k = tt

-- places of places
abbrev pub at : List ℕ → ℕ → ℕ
at ns n = slice_index ns n

moved_at : (ps paths : List Path) (fs : List ℕ) (n : ℕ) → ArePlaces ps fs paths → n < length paths → path_at ps (at fs n) ≡ path_at paths n
moved_at ps paths fs n places below =
    let inside : n < length fs = omega (arith, below, places_long ps fs paths places) in
    sym (get_or-map (path_at ps) fs n 0 nothing inside) ∙ ap (λ (qs : List Path). path_at qs n) places.are

moved_all : (ps paths : List Path) (fs ns : List ℕ) → ArePlaces ps fs paths → All (λ n. n < length paths) ns → map (path_at ps) (map (at fs) ns) ≡ map (path_at paths) ns
moved_all ps paths fs [] places within = refl
moved_all ps paths fs (n ∷ ns) places within =
    ap₂ (λ (p : Path) (qs : List Path). p ∷ qs) (moved_at ps paths fs n places (within 0 0 (omega arith)))
    (moved_all ps paths fs ns places (All-tail (λ m. m < length paths) n ns within))

pub moved : (ps paths row : List Path) (fs ns : List ℕ) → ArePlaces ps fs paths → ArePlaces paths ns row → ArePlaces ps (map (at fs) ns) row
moved ps paths row fs ns places inner = record {
  within = All-map (λ m. m < length ps) (at fs) ns
      (λ k d below. places.within (get_or ns k d) 0 (omega (arith, inner.within k d below, places_long ps fs paths places)));
  are = moved_all ps paths fs ns places inner.within ∙ inner.are;
}

places_both : (ps row others : List Path) (ns ms : List ℕ) → ArePlaces ps ns row → ArePlaces ps ms others → ArePlaces ps (ns ++ ms) (row ++ others)
places_both ps row others ns ms first second = record {
  within = All-append (λ n. n < length ps) ns ms first.within second.within;
  are = map-append (path_at ps) ns ms ∙ ap₂ (λ (qs rs : List Path). qs ++ rs) first.are second.are;
}

-- what comes of two unions, united
pub only_joined : (rows others first second ps : List Path) → ((p : Path) → Contains first p → Contains rows p) → ((p : Path) → Contains second p → Contains others p)
    → ((p : Path) → Contains ps p → Contains first p ⊎ Contains second p) → (p : Path) → Contains ps p → Contains (rows ++ others) p
only_joined rows others first second ps first_only second_only only p there = elim (only p there) [
  | inl one ↦ Contains-append_left rows others p (first_only p one)
  | inr other ↦ Contains-append_right rows others p (second_only p other)
]

pub joined : (rows others first second ps : List Path) (ns ms fs ss : List ℕ) → IsUnion first second ps fs ss → AreGathered rows first ns → AreGathered others second ms
    → AreGathered (rows ++ others) ps (map (at fs) ns ++ map (at ss) ms)
joined rows others first second ps ns ms fs ss union first_row second_row = record {
  rise = union.rise;
  few = union.few;
  places = places_both ps rows others (map (at fs) ns) (map (at ss) ms)
      (moved ps first rows fs ns union.first_places first_row.places) (moved ps second others ss ms union.second_places second_row.places);
  only = only_joined rows others first second ps first_row.only second_row.only union.only;
}

pub gathered_alone : (row ps : List Path) (fs ss : List ℕ) → IsUnion row [] ps fs ss → AreGathered row ps fs
gathered_alone row ps fs ss union = record {
  rise = union.rise;
  few = union.few;
  places = union.first_places;
  only = λ p there. elim (union.only p there) [ inl one ↦ one | inr none ↦ absurd (omega (arith, none.1)) ];
}

pub rise_none : IsStrictlySortedBy path_cmp []
unfolding IsStrictlySortedBy
rise_none = tt

pub gathered_none : AreGathered [] [] []
gathered_none = record {
  rise = rise_none;
  few = lit< tt;
  places = record { within = All-nil (λ n. n < 0); are = refl };
  only = λ p there. there;
}

-- rows of rows
abbrev pub items : Vec Path Global → List Path
items row = row.items

pub flat_both : (rows others : List (Vec Path Global)) → flat_map items (rows ++ others) ≡ flat_map items rows ++ flat_map items others
flat_both [] others = refl
flat_both (row ∷ rows) others = ap (λ (ps : List Path). row.items ++ ps) (flat_both rows others) ∙ sym (append_assoc row.items (flat_map items rows) (flat_map items others))

pub flat_parts : (rows : List (Vec Path Global)) (n : ℕ) → flat_map items (take n rows) ++ flat_map items (drop n rows) ≡ flat_map items rows
flat_parts rows n = sym (flat_both (take n rows) (drop n rows)) ∙ ap (flat_map items) (take-append-drop n rows)

pub flat_more : (rows : List (Vec Path Global)) (i : ℕ) (row : Vec Path Global) → i < length rows → row ≡ get_or rows i row
    → flat_map items (take (i + 1) rows) ≡ flat_map items (take i rows) ++ row.items
flat_more rows i row below is =
    ap (flat_map items) (take_more rows i row below ∙ ap (λ (r : Vec Path Global). take i rows ++ r ∷ []) (sym is)) ∙ sym (flat_map_more items [] (take i rows) row)

-- the numbers of one row among those of all rows
part_places : (ps before row rest : List Path) (numbers : List ℕ) (start size : ℕ) → ArePlaces ps numbers ((before ++ row) ++ rest) → length before ≡ start → length row ≡ size
    → ArePlaces ps (take size (drop start numbers)) row
part_places ps before row rest numbers start size places before_long row_long = record {
  within = All-take (λ n. n < length ps) size (drop start numbers) (All-drop (λ n. n < length ps) start numbers places.within);
  are = sym (take-map (path_at ps) size (drop start numbers)) ∙ ap (take size) (sym (drop-map (path_at ps) start numbers)) ∙ ap (λ (qs : List Path). take size (drop start qs)) places.are
      ∙ ap (λ (qs : List Path). take size (drop start qs)) (append_assoc before row rest) ∙ ap (take size) (drop_at before (row ++ rest) start before_long) ∙ take_at row rest size row_long;
}

pub row_places : (ps : List Path) (rows : List (Vec Path Global)) (numbers : List ℕ) (i : ℕ) (row : Vec Path Global) (start size : ℕ) → i < length rows → row ≡ get_or rows i row
    → ArePlaces ps numbers (flat_map items rows) → length (flat_map items (take i rows)) ≡ start → length row.items ≡ size
    → ArePlaces ps (take size (drop start numbers)) row.items
row_places ps rows numbers i row start size below is places before_long row_long =
    let all : (flat_map items (take i rows) ++ row.items) ++ flat_map items (drop (i + 1) rows) ≡ flat_map items rows =
    ap (λ (qs : List Path). qs ++ flat_map items (drop (i + 1) rows)) (sym (flat_more rows i row below is)) ∙ flat_parts rows (i + 1) in
    part_places ps (flat_map items (take i rows)) row.items (flat_map items (drop (i + 1) rows)) numbers start size
    (subst (ArePlaces ps numbers) (sym all) places) before_long row_long

-- what is left of the numbers
pub row_fits : (rows : List (Vec Path Global)) (numbers : List ℕ) (i : ℕ) (row : Vec Path Global) → i < length rows → row ≡ get_or rows i row
    → length numbers ≡ length (flat_map items rows) → length row.items ≤ length (drop (length (flat_map items (take i rows))) numbers)
row_fits rows numbers i row below is long =
    let start = length (flat_map items (take i rows)) in
    let more : length (flat_map items (take (i + 1) rows)) ≡ start + length row.items = ap length (flat_more rows i row below is) ∙ length-append (flat_map items (take i rows)) row.items in
    let all : length (flat_map items (take (i + 1) rows)) + length (flat_map items (drop (i + 1) rows)) ≡ length (flat_map items rows) =
    sym (length-append (flat_map items (take (i + 1) rows)) (flat_map items (drop (i + 1) rows))) ∙ ap length (flat_parts rows (i + 1)) in
    omega (arith, more, all, long, length-drop start numbers)

pub rest_more : (rows : List (Vec Path Global)) (numbers : List ℕ) (i : ℕ) (row : Vec Path Global) (size : ℕ) → i < length rows → row ≡ get_or rows i row → length row.items ≡ size
    → drop size (drop (length (flat_map items (take i rows))) numbers) ≡ drop (length (flat_map items (take (i + 1) rows))) numbers
rest_more rows numbers i row size below is long =
    let start = length (flat_map items (take i rows)) in
    drop-drop size start numbers ∙ ap (λ (n : ℕ). drop n numbers)
    (ap (λ (n : ℕ). start + n) (sym long) ∙ sym (length-append (flat_map items (take i rows)) row.items) ∙ ap length (sym (flat_more rows i row below is)))

-- each row rises
pub rows_sorted : (rows : List (Vec Path Global)) → ((n : ℕ) → IsStrictlySortedBy path_cmp (unwrap_or (slice_get (map items rows) n) [])) → AreSorted rows
rows_sorted rows rise k d below =
    subst (IsStrictlySortedBy path_cmp) (unwrap_or-slice_get (map items rows) k [] ∙ get_or-map items rows k d [] below) (rise k)

pub united_start : (first second ps : List Path) (fs ss : List ℕ) → ps ≡ [] → fs ≡ [] → ss ≡ [] → IsUnited first second ps fs ss
united_start first second ps fs ss no_paths no_firsts no_seconds =
    subst (λ (qs : List Path). IsUnited first second qs fs ss) (sym no_paths)
    (subst (λ (ns : List ℕ). IsUnited first second [] ns ss) (sym no_firsts)
    (subst (λ (ns : List ℕ). IsUnited first second [] [] ns) (sym no_seconds) (united_none first second)))

-- one put by what it wrote
pub put_both_more : (first second ps new : List Path) (p : Path) (fs ss new_fs new_ss : List ℕ) (i : ℕ) → IsStrictlySortedBy path_cmp first → IsStrictlySortedBy path_cmp second
    → IsUnited first second ps fs ss → IsStep first second (length fs) (length ss) Equal → p ≡ path_at first (length fs) → new ≡ ps ++ p ∷ [] → length new < number_limit
    → new_fs ≡ fs ++ i ∷ [] → new_ss ≡ ss ++ i ∷ [] → i ≡ length ps → IsUnited first second new new_fs new_ss
put_both_more first second ps new p fs ss new_fs new_ss i first_rise second_rise united step is new_is few fs_is ss_is i_is =
    let limit : length (ps ++ p ∷ []) < number_limit = subst (λ (qs : List Path). length qs < number_limit) new_is few in
    let done = add_both first second ps p fs ss first_rise second_rise united is (is ∙ step.2) step.0 step.1 limit in
    subst (λ (qs : List Path). IsUnited first second qs new_fs new_ss) (sym new_is)
    (subst (λ (ns : List ℕ). IsUnited first second (ps ++ p ∷ []) ns new_ss) (sym (fs_is ∙ ap (λ (n : ℕ). fs ++ n ∷ []) i_is))
    (subst (λ (ns : List ℕ). IsUnited first second (ps ++ p ∷ []) (fs ++ length ps ∷ []) ns) (sym (ss_is ∙ ap (λ (n : ℕ). ss ++ n ∷ []) i_is)) done))

pub path_is : (paths : List (Bor Path)) (p : Bor Path) (place i : ℕ) → p ≡ get_or paths place p → place ≡ i → i < length (map behind paths) → p.now ≡ path_at (map behind paths) i
path_is paths p place i is same below =
    ap behind (is ∙ ap (λ (n : ℕ). get_or paths n p) same) ∙ sym (behind_at paths i p (omega (arith, below, length-map paths behind)))

-- the same where lists are lent
pub union_at : (first first_lent second second_lent : List (Bor Path)) (ps : List Path) (fs ss : List ℕ) → first_lent ≡ first → second_lent ≡ second
    → IsUnion (map behind first_lent) (map behind second_lent) ps fs ss → IsUnion (map behind first) (map behind second) ps fs ss
union_at first first_lent second second_lent ps fs ss first_is second_is union =
    subst (λ (rs : List (Bor Path)). IsUnion (map behind rs) (map behind second) ps fs ss) first_is
    (subst (λ (rs : List (Bor Path)). IsUnion (map behind first_lent) (map behind rs) ps fs ss) second_is union)

pub within_places : (row ps : List Path) (fs ns theirs places : List ℕ) (count : ℕ) → ArePlaces ps fs row → length row ≡ count → All (λ n. n < count) ns → theirs ≡ ns → places ≡ fs
    → All (λ n. n < length places) theirs
within_places row ps fs ns theirs places count are long within theirs_is places_is =
    subst (All (λ n. n < length places)) (sym theirs_is)
    (λ k d below. omega (arith, within k d below, long, places_long ps fs row are, ap length places_is))

pub moved_at_lent : (theirs ns places fs : List ℕ) → theirs ≡ ns → places ≡ fs → map (at places) theirs ≡ map (at fs) ns
moved_at_lent theirs ns places fs theirs_is places_is = ap₂ (λ (rs ts : List ℕ). map (at rs) ts) places_is theirs_is

pub moved_lent : (ps paths row : List Path) (fs ns theirs places : List ℕ) → theirs ≡ ns → places ≡ fs → ArePlaces ps fs paths → ArePlaces paths ns row
    → ArePlaces ps (map (at places) theirs) row
moved_lent ps paths row fs ns theirs places theirs_is places_is are inner =
    subst (λ (ms : List ℕ). ArePlaces ps ms row) (sym (moved_at_lent theirs ns places fs theirs_is places_is)) (moved ps paths row fs ns are inner)

pub gathered_empty : (rows : List (Vec Path Global)) (ps : List Path) (ns : List ℕ) → length rows < 1 → ps ≡ [] → ns ≡ [] → AreGathered (flat_map items rows) ps ns
gathered_empty [] ps ns few no_paths no_numbers =
    subst (λ (qs : List Path). AreGathered [] qs ns) (sym no_paths) (subst (λ (ms : List ℕ). AreGathered [] [] ms) (sym no_numbers) gathered_none)
gathered_empty (row ∷ rows) ps ns few no_paths no_numbers = absurd (omega arith)

-- all paths up to one that stands before a path stand before it
pub run_before : (first second : List Path) (end at : ℕ) → IsStrictlySortedBy path_cmp first → 0 < end → end ≤ length first → IsStep first second (end - 1) at Less
    → (k : ℕ) → k < end → IsStep first second k at Less
run_before first second end at rise some within last k below = elim (cases_lt k (end - 1)) [
  | inl before ↦ (
    omega arith,
    λ left. path_cmp_total.trans (path_at first k) (path_at first (end - 1)) (path_at second at)
        (Less-from_sorted path_cmp first k (end - 1) nothing rise before (omega arith)) (last.1 left),
  )
  | inr most ↦ let same : end - 1 ≡ k = omega arith in subst (λ (i : ℕ). IsStep first second i at Less) same last
]

-- a run of one row
pub upwards_long : (n k : ℕ) → length (upwards n k) ≡ k
upwards_long n zero = refl
upwards_long n (suc k) = length_push (upwards n k) (n + k) ∙ ap (λ (m : ℕ). m + 1) (upwards_long n k) ∙ omega arith

run_longer : (first second ps : List Path) (fs ss : List ℕ) (n : ℕ) → IsStrictlySortedBy path_cmp first → IsUnited first second ps fs ss
    → ((k : ℕ) → k < length fs + n → IsStep first second k (length ss) Less) → length ps + n < number_limit
    → IsUnited first second (ps ++ take n (drop (length fs) first)) (fs ++ upwards (length ps) n) ss
run_longer first second ps fs ss zero rise united before few =
    subst (λ (qs : List Path). IsUnited first second qs (fs ++ []) ss) (sym (append-nil ps))
    (subst (λ (ns : List ℕ). IsUnited first second ps ns ss) (sym (append-nil fs)) united)
run_longer first second ps fs ss (suc n) rise united before few =
    let i = length fs in
    let run = take n (drop i first) in
    let more = run_longer first second ps fs ss n rise united (λ k below. before k (omega arith)) (omega arith) in
    let step = before (i + n) (omega arith) in
    let numbers_long : length (fs ++ upwards (length ps) n) ≡ i + n = length-append fs (upwards (length ps) n) ∙ ap (λ (m : ℕ). i + m) (upwards_long (length ps) n) in
    let paths_long : length (ps ++ run) ≡ length ps + n = omega (arith, length-append ps run, length-take n (drop i first), length-drop i first, step.0) in
    let p = path_at first (i + n) in
    let next : p ≡ path_at first (length (fs ++ upwards (length ps) n)) = ap (path_at first) (sym numbers_long) in
    let done = add_first first second (ps ++ run) p (fs ++ upwards (length ps) n) ss rise more next (omega (arith, step.0, numbers_long)) step.1
    (omega (arith, few, paths_long, length_push (ps ++ run) p)) in
    let inside : n < length (drop i first) = omega (arith, step.0, length-drop i first) in
    let size : n + 1 ≡ suc n = omega arith in
    let paths_are : (ps ++ run) ++ p ∷ [] ≡ ps ++ take (suc n) (drop i first) =
    append_assoc ps run (p ∷ []) ∙ ap (λ (qs : List Path). ps ++ qs)
    (ap (λ (q : Path). run ++ q ∷ []) (sym (get_or-drop i first n nothing)) ∙ sym (take_more (drop i first) n nothing inside) ∙ ap (λ (m : ℕ). take m (drop i first)) size) in
    let numbers_are : (fs ++ upwards (length ps) n) ++ length (ps ++ run) ∷ [] ≡ fs ++ upwards (length ps) (suc n) =
    append_assoc fs (upwards (length ps) n) (length (ps ++ run) ∷ []) ∙ ap (λ (m : ℕ). fs ++ (upwards (length ps) n ++ m ∷ [])) paths_long in
    subst (λ (qs : List Path). IsUnited first second qs (fs ++ upwards (length ps) (suc n)) ss) paths_are
    (subst (λ (ns : List ℕ). IsUnited first second ((ps ++ run) ++ p ∷ []) ns ss) numbers_are done)

-- by what a run wrote
pub run_more : (first second ps new : List Path) (fs new_fs ss : List ℕ) (start at end count : ℕ) → IsStrictlySortedBy path_cmp first → IsUnited first second ps fs ss
    → start ≡ length fs → at ≡ length ss → start < end → end ≤ length first → ((k : ℕ) → k < end → IsStep first second k at Less)
    → new ≡ ps ++ take (end - start) (drop start first) → length new < number_limit → new_fs ≡ fs ++ upwards count (end - start) → count ≡ length ps
    → IsUnited first second new new_fs ss
run_more first second ps new fs new_fs ss start at end count rise united start_is at_is more within before new_is few fs_is count_is =
    let size = end - start in
    let run = take size (drop start first) in
    let long : length run ≡ size = omega (arith, length-take size (drop start first), length-drop start first) in
    let limit : length ps + size < number_limit = omega (arith, few, ap length new_is, length-append ps run, long) in
    let done = run_longer first second ps fs ss size rise united (λ k below. subst (λ (j : ℕ). IsStep first second k j Less) at_is (before k (omega (arith, below, start_is, more)))) limit in
    subst (λ (qs : List Path). IsUnited first second qs new_fs ss) (sym new_is)
    (subst (λ (ns : List ℕ). IsUnited first second (ps ++ run) ns ss) (sym (fs_is ∙ ap (λ (n : ℕ). fs ++ upwards n size) count_is))
    (subst (λ (i : ℕ). IsUnited first second (ps ++ take size (drop i first)) (fs ++ upwards (length ps) size) ss) (sym start_is) done))

pub run_more_second : (first second ps new : List Path) (fs ss new_ss : List ℕ) (start at end count : ℕ) → IsStrictlySortedBy path_cmp second → IsUnited first second ps fs ss
    → start ≡ length ss → at ≡ length fs → start < end → end ≤ length second → ((k : ℕ) → k < end → IsStep second first k at Less)
    → new ≡ ps ++ take (end - start) (drop start second) → length new < number_limit → new_ss ≡ ss ++ upwards count (end - start) → count ≡ length ps
    → IsUnited first second new fs new_ss
run_more_second first second ps new fs ss new_ss start at end count rise united start_is at_is more within before new_is few ss_is count_is =
    turned second first new new_ss fs
    (run_more second first ps new ss new_ss fs start at end count rise (turned first second ps fs ss united) start_is at_is more within before new_is few ss_is count_is)

pub run_of : (paths : List (Bor Path)) (start size : ℕ) → map behind (take size (drop start paths)) ≡ take size (drop start (map behind paths))
run_of paths start size = sym (take-map behind size (drop start paths)) ∙ ap (take size) (sym (drop-map behind start paths))

pub run_long : (paths : List (Bor Path)) (start end : ℕ) → end ≤ length paths → length (take (end - start) (drop start paths)) ≡ end - start
run_long paths start end within = omega (arith, within, length-take (end - start) (drop start paths), length-drop start paths)

pub on_ok : {X E : Type 0} {P Q : Type 0} (r : Result X E) → OnOk r P → (P → Q) → OnOk r Q
on_ok (Ok x) p k = k p
on_ok (Err e) p k = tt

pub run_counts : (fs new_fs : List ℕ) (count size : ℕ) → 0 < size → new_fs ≡ fs ++ upwards count size → length fs < length new_fs
run_counts fs new_fs count size some is = omega (arith, ap length is, length-append fs (upwards count size), upwards_long count size, some)
