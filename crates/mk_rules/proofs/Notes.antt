-- The index of a rulebook, as it grows by one target.
use Rattle.std.proofs.Common.{◌≡◌, ◌≢◌, ℕ, ◌+◌, ◌-◌, ◌<◌, Bool, true, false, cond, if◌then◌else◌, ◌||◌, List, [], ◌∷◌, ◌++◌, Some, refl, sym, ◌∙◌, ap, ⊎_elim, arith, append_assoc, append-nil, length-append, filter, map, length, get_or, set, suc, slice_get, position}
use Rattle.std.proofs.lemmas.Bool.{cases_eq, cases_order, false_from_ne_true, or_parts, true≢false}
use Rattle.std.proofs.lemmas.Option.{get_or_from_slice_get, slice_get_within}
use Rattle.std.proofs.lemmas.List.{ext_get_or, get_or-map, length-map, get_or-set_other, length-set, map-append, map-set}
use Rattle.std.proofs.lemmas.Grind.{get_or-set_at}
use Rattle.std.proofs.lemmas.List.Concat.{flat_map-append}
use Rattle.std.proofs.lemmas.List.Elements.{filter-append}
use Rattle.std.proofs.lemmas.List.Folds.{list_any-append, list_any_at}
use Rattle.std.proofs.lemmas.List.Quantifiers.{position-Some}
use Rattle.std.proofs.lemmas.Map.Keys.{apart_from_distinct}
use Rattle.std.specs.Cmp.Lexicographic.{nat_list_eq_equiv}
use Rattle.std.specs.List.{All, IsDistinct, enumerate_from, flat_map, list_any}
use Rattle.indexmap.specs.IndexSet.{insert_key}
use Rattle.mk_name.specs.Names.{Name, same_name, has, firsts}
use Rattle.mk_rules.specs.Book.{Entry, names_target, targets_of, is_target, places_of}
use Rattle.mk_rules.specs.Index.{IsIndexed, with_target}
use Rattle.mk_rules.proofs.Firsts.{firsts-distinct, firsts-push, insert_key-present, or_none, same_name-true}
use Rattle.mk_rules.proofs.Indexes.{found-is_target, places_none, places_of-within, row_at}

enumerate_from-append : (n : ℕ) (xs ys : List Entry) → enumerate_from n (xs ++ ys) ≡ enumerate_from n xs ++ enumerate_from (n + length xs) ys
enumerate_from-append n [] ys = ap (λ k. enumerate_from k ys) (omega arith)
enumerate_from-append n (x ∷ xs) ys =
    ap (λ l. (n, x) ∷ l) (enumerate_from-append (n + 1) xs ys ∙ ap (λ k. enumerate_from (n + 1) xs ++ enumerate_from k ys) (omega arith))

-- the last entry's place comes last
abbrev last_place : Bool → ℕ → List ℕ
last_place b n = if b then n ∷ [] else []

places_of-push : (front : List Entry) (e : Entry) (t : Name) → places_of (front ++ e ∷ []) t ≡ places_of front t ++ last_place (names_target t e) (length front)
places_of-push front e t =
    let place : ℕ × Entry → ℕ = λ x. x.0 in
    let names : ℕ × Entry → Bool = λ x. names_target t x.1 in
    ap (λ l. map place (filter names l)) (enumerate_from-append 0 front (e ∷ []))
    ∙ ap (map place) (filter-append names (enumerate_from 0 front) ((0 + length front, e) ∷ []))
    ∙ map-append place (filter names (enumerate_from 0 front)) (cond (names_target t e) ((0 + length front, e) ∷ []) [])
    ∙ ap (λ l. places_of front t ++ l) (by (names_target t e))
  where
    by : (b : Bool) → map {A = ℕ × Entry} (λ x. x.0) (cond b ((0 + length front, e) ∷ []) []) ≡ last_place b (length front)
    by true = ap (λ n. n ∷ []) (omega arith)
    by false = refl

-- the name is a target of the entry with one more
names-with_target : (e : Entry) (t u : Name) → names_target u (with_target e t) ≡ (names_target u e || same_name t u)
names-with_target e t u = list_any-append (λ y. same_name y u) e.targets (t ∷ []) ∙ ap (λ b. names_target u e || b) (sym (or_none (same_name t u)))

-- another name keeps its places
push_other : (front : List Entry) (e : Entry) (t u : Name) → same_name t u ≡ false → places_of (front ++ with_target e t ∷ []) u ≡ places_of (front ++ e ∷ []) u
push_other front e t u h =
    places_of-push front (with_target e t) u
    ∙ ap (λ b. places_of front u ++ last_place b (length front)) (names-with_target e t u ∙ ap (λ b. names_target u e || b) h ∙ sym (or_none (names_target u e)))
    ∙ sym (places_of-push front e u)

-- the target itself gets the last place, if it has it not yet
same_itself : (t : Name) → same_name t t ≡ true
same_itself t = nat_list_eq_equiv.refl t

push_this : (front : List Entry) (e : Entry) (t : Name) → places_of (front ++ with_target e t ∷ []) t ≡ places_of front t ++ length front ∷ []
push_this front e t =
    places_of-push front (with_target e t) t
    ∙ ap (λ b. places_of front t ++ last_place b (length front)) (names-with_target e t t ∙ by (names_target t e) (same_itself t))
  where
    by : (b : Bool) {s : Bool} → s ≡ true → (b || s) ≡ true
    by true h = refl
    by false h = h

-- the last number of a list
last_push : (xs : List ℕ) (p : ℕ) → slice_get (xs ++ p ∷ []) (length xs) ≡ Some p
last_push [] p = refl
last_push (x ∷ xs) p = last_push xs p

ends_in : (xs : List ℕ) (p : ℕ) → slice_get (xs ++ p ∷ []) (length (xs ++ p ∷ []) - 1) ≡ Some p
ends_in xs p = ap (slice_get (xs ++ p ∷ [])) (omega (arith, length-append xs (p ∷ []))) ∙ last_push xs p

ends_below : (xs : List ℕ) (p : ℕ) → All (λ x. x < p) xs → slice_get xs (length xs - 1) ≡ Some p → ⊥
ends_below xs p below h =
    let last = length xs - 1 in
    let here : get_or xs last 0 ≡ p = get_or_from_slice_get xs last p 0 h in
    let small : get_or xs last 0 < p = below last 0 (slice_get_within xs last p h) in
    omega arith

-- the row of the target, to which the place goes unless it is there
row_noted : (front : List Entry) (e : Entry) (t : Name) (row new : List ℕ) → row ≡ places_of (front ++ e ∷ []) t
    → (slice_get row (length row - 1) ≡ Some (length front) → new ≡ row) → (slice_get row (length row - 1) ≢ Some (length front) → new ≡ row ++ length front ∷ [])
    → new ≡ places_of (front ++ with_target e t ∷ []) t
row_noted front e t row new is there added = by (names_target t e) (is ∙ places_of-push front e t) ∙ sym (push_this front e t)
  where
    by : (b : Bool) → row ≡ places_of front t ++ last_place b (length front) → new ≡ places_of front t ++ length front ∷ []
    by true h = there (ap (λ l. slice_get l (length l - 1)) h ∙ ends_in (places_of front t) (length front)) ∙ h
    by false h =
        let all : row ≡ places_of front t = h ∙ append-nil (places_of front t) in
        added (λ ends. ends_below (places_of front t) (length front) (places_of-within front t) (ap (λ l. slice_get l (length l - 1)) (sym all) ∙ ends)) ∙ ap (λ l. l ++ length front ∷ []) all

-- the targets of the entries, with one more
targets_of-push : (front : List Entry) (e : Entry) (t : Name) → targets_of (front ++ with_target e t ∷ []) ≡ insert_key same_name (targets_of (front ++ e ∷ [])) t
targets_of-push front e t =
    let before = flat_map (λ x. x.targets) front in
    ap (firsts same_name) (flat_map-append (λ x. x.targets) front (with_target e t ∷ []) ∙ ap (λ l. before ++ l) (append-nil (e.targets ++ t ∷ [])) ∙ sym (append_assoc before e.targets (t ∷ [])))
    ∙ firsts-push same_name nat_list_eq_equiv (before ++ e.targets) t
    ∙ ap (λ l. insert_key same_name (firsts same_name l) t) (sym (flat_map-append (λ x. x.targets) front (e ∷ []) ∙ ap (λ l. before ++ l) (append-nil e.targets)))

map_same : {B : Type 0} (g h : Name → B) (keys : List Name) → ((k : ℕ) (d : Name) → k < length keys → g (get_or keys k d) ≡ h (get_or keys k d)) → map g keys ≡ map h keys
map_same g h [] same = refl
map_same g h (x ∷ xs) same =
    let first : g x ≡ h x = same 0 x (omega arith) in
    let rest : map g xs ≡ map h xs = map_same g h xs (λ k d within. same (suc k) d (omega arith)) in
    cc

map_set_same : (g h : Name → List ℕ) (keys : List Name) (i : ℕ) (t : Name) → i < length keys → t ≡ get_or keys i t
    → ((k : ℕ) → k < length keys → k ≢ i → h (get_or keys k t) ≡ g (get_or keys k t)) → set (map g keys) i (h t) ≡ map h keys
map_set_same g h keys i t within here other =
    let sizes : length (map g keys) ≡ length keys = length-map keys g in
    let set_size : length (set (map g keys) i (h t)) ≡ length (map g keys) = length-set (map g keys) i (h t) in
    let new_size : length (map h keys) ≡ length keys = length-map keys h in
    ext_get_or [] (set (map g keys) i (h t)) (map h keys) (omega arith)
    (λ k lt.
    let inside : k < length keys = omega arith in
    ⊎_elim
    (λ same. get_or-set_at (map g keys) i k (h t) [] same (omega arith) ∙ ap h (here ∙ ap (λ n. get_or keys n t) (sym same)) ∙ sym (get_or-map h keys k t [] inside))
    (λ apart. get_or-set_other (map g keys) i k (h t) [] apart ∙ get_or-map g keys k t [] inside ∙ sym (other k inside apart) ∙ sym (get_or-map h keys k t [] inside))
    (cases_eq k i))

-- no other key is the same as the one at its place
apart_at : (keys : List Name) (i k : ℕ) (t : Name) → IsDistinct same_name keys → t ≡ get_or keys i t → i < length keys → k < length keys → k ≢ i → same_name t (get_or keys k t) ≡ false
apart_at keys i k t distinct here first second ne =
    ⊎_elim
    (λ same. absurd (ne same))
    (λ order. ap (λ x. same_name x (get_or keys k t)) here ∙ ⊎_elim
    (λ below. nat_list_eq_equiv.symm (get_or keys i t) (get_or keys k t) ∙ apart_from_distinct same_name keys k i t distinct below first)
    (λ above. apart_from_distinct same_name keys i k t distinct above second)
    order)
    (cases_order k i)

-- where none passes, the one at each place fails
fails_at : (p : Name → Bool) (keys : List Name) (k : ℕ) (d : Name) → list_any p keys ≡ false → k < length keys → p (get_or keys k d) ≡ false
fails_at p keys k d none within = false_from_ne_true _ (λ h. true≢false (sym (list_any_at p keys k d within h) ∙ none))

-- a new target goes last, with the one place
pub absent_noted : (front : List Entry) (e : Entry) (t : Name) (keys : List Name) (rows : List (List ℕ)) → IsIndexed (front ++ e ∷ []) keys rows → list_any (same_name t) keys ≡ false
    → IsIndexed (front ++ with_target e t ∷ []) (insert_key same_name keys t) (rows ++ (length front ∷ []) ∷ [])
absent_noted front e t keys rows index absent =
    let before = places_of (front ++ e ∷ []) in
    let after = places_of (front ++ with_target e t ∷ []) in
    let grown : insert_key same_name keys t ≡ keys ++ t ∷ [] = ap (λ b. if b then keys else keys ++ t ∷ []) absent in
    let no_target : is_target (front ++ e ∷ []) t ≡ false = sym (found-is_target (front ++ e ∷ []) keys t index.order) ∙ absent in
    let none : is_target front t ≡ false = (or_parts _ _ (sym (list_any-append (names_target t) front (e ∷ [])) ∙ no_target)).0 in
    let alone : after t ≡ length front ∷ [] = push_this front e t ∙ ap (λ l. map {A = ℕ × Entry} (λ x. x.0) l ++ length front ∷ []) (places_none front 0 t none) in
    let kept_rows : rows ≡ map after keys =
    index.rows ∙ map_same before after keys (λ k d within. sym (push_other front e t (get_or keys k d) (fails_at (same_name t) keys k d absent within))) in
    record {
      order = ap (λ l. insert_key same_name l t) index.order ∙ sym (targets_of-push front e t);
      rows = ap (λ l. l ++ (length front ∷ []) ∷ []) kept_rows ∙ ap (λ row. map after keys ++ row ∷ []) (sym alone) ∙ sym (map-append after keys (t ∷ [])) ∙ ap (map after) (sym grown);
    }

-- a target that is there keeps its place, and its row takes the place of the entry
pub present_noted : {V : Type 0} (f : V → List ℕ) (front : List Entry) (e : Entry) (t : Name) (keys : List Name) (rows : List V) (i : ℕ) (v new : V)
    → IsIndexed (front ++ e ∷ []) keys (map f rows) → position (same_name t) keys ≡ Some i → v ≡ get_or rows i v
    → (slice_get (f v) (length (f v) - 1) ≡ Some (length front) → f new ≡ f v) → (slice_get (f v) (length (f v) - 1) ≢ Some (length front) → f new ≡ f v ++ length front ∷ [])
    → IsIndexed (front ++ with_target e t ∷ []) keys (map f (set rows i new))
present_noted f front e t keys rows i v new index at row there added =
    let before = places_of (front ++ e ∷ []) in
    let after = places_of (front ++ with_target e t ∷ []) in
    let found = position-Some (same_name t) keys i t at in
    let distinct : IsDistinct same_name keys = rw index.order (firsts-distinct same_name nat_list_eq_equiv (flat_map (λ x. x.targets) (front ++ e ∷ []))) in
    let here : t ≡ get_or keys i t = same_name-true _ _ found.1 in
    let was : f v ≡ before t = row_at f (front ++ e ∷ []) keys rows t i index at v row in
    let now : f new ≡ after t = row_noted front e t (f v) (f new) was there added in
    let apart : (k : ℕ) → k < length keys → k ≢ i → same_name t (get_or keys k t) ≡ false =
    λ k within ne. apart_at keys i k t distinct here found.0 within ne in
    record {
      order = insert_key-present same_name nat_list_eq_equiv keys t (list_any_at (same_name t) keys i t found.0 found.1) ∙ ap (λ l. insert_key same_name l t) index.order ∙ sym (targets_of-push front e t);
      rows =
          map-set f rows i new
          ∙ ap (λ l. set l i (f new)) index.rows
          ∙ ap (set (map before keys) i) now
          ∙ map_set_same before after keys i t found.0 here (λ k within ne. push_other front e t (get_or keys k t) (apart k within ne));
    }

-- equal lists are an index alike
pub indexed_same : (entries : List Entry) (keys keys' : List Name) (rows rows' : List (List ℕ)) → keys' ≡ keys → rows' ≡ rows → IsIndexed entries keys rows → IsIndexed entries keys' rows'
indexed_same entries keys keys' rows rows' same_keys same_rows index = record {
  order = same_keys ∙ index.order;
  rows = same_rows ∙ index.rows ∙ ap (map (places_of entries)) (sym same_keys);
}

-- no entries have no index
pub nothing_indexed : IsIndexed [] [] []
nothing_indexed = record { order = refl; rows = refl }

-- an entry without targets changes nothing
pub indexed-empty : (front : List Entry) (e : Entry) (keys : List Name) (rows : List (List ℕ)) → e.targets ≡ [] → IsIndexed front keys rows → IsIndexed (front ++ e ∷ []) keys rows
indexed-empty front e keys rows none index = record {
  order = index.order ∙ ap (firsts same_name) (sym (flat_map-append (λ x. x.targets) front (e ∷ []) ∙ ap (λ l. flat_map (λ x. x.targets) front ++ (l ++ [])) none ∙ append-nil (flat_map (λ x. x.targets) front)));
  rows = index.rows ∙ map_same (places_of front) (places_of (front ++ e ∷ [])) keys (λ k d within.
      sym (places_of-push front e (get_or keys k d) ∙ ap (λ l. places_of front (get_or keys k d) ++ last_place (has same_name l (get_or keys k d)) (length front)) none ∙ append-nil (places_of front (get_or keys k d))));
}
