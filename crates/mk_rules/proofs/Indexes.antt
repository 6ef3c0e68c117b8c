-- The index of a rulebook.
use Rattle.std.proofs.Common.{◌≡◌, ℕ, ◌+◌, ◌<◌, Bool, true, false, cond, ◌||◌, ◌&&◌, List, [], ◌∷◌, ◌++◌, Some, None, refl, sym, ◌∙◌, ap, arith, filter, find, map, length, get_or, position, is_some, suc, ◌≤◌, drop, take, slice_get}
use Rattle.std.proofs.lemmas.Bool.{or_parts}
use Rattle.std.proofs.lemmas.Iterator.Adapters.{position_from-zero}
use Rattle.std.proofs.lemmas.List.Elements.{All-cons, All-nil}
use Rattle.std.proofs.lemmas.List.Folds.{list_any-append}
use Rattle.std.proofs.lemmas.List.Quantifiers.{position-Some}
use Rattle.std.proofs.lemmas.List.{drop_all, drop_more, flat_map_more, take_more, get_or-map, length-map}
use Rattle.std.proofs.lemmas.Option.{get_or_from_slice_get}
use Rattle.std.specs.Cmp.Lexicographic.{nat_list_eq_equiv}
use Rattle.std.specs.List.{All, enumerate_from, flat_map, list_any, position_from}
use Rattle.mk_name.specs.Names.{Name, same_name, has, firsts, kept}
use Rattle.mk_rules.specs.Book.{Entry, commands_at, names_target, targets_of, is_target, places_of, gives_commands, has_recipe, recipe_place}
use Rattle.mk_rules.specs.Index.{IsIndexed}
use Rattle.mk_rules.proofs.Firsts.{has-firsts, has-flip, kept-append, same_name-true}

-- a name stands among the targets of the entries where one of them names it
pub has-flat_map : (entries : List Entry) (t : Name) → has same_name (flat_map (λ e. e.targets) entries) t ≡ is_target entries t
has-flat_map [] t = refl
has-flat_map (e ∷ es) t =
    list_any-append (λ y. same_name y t) e.targets (flat_map (λ x. x.targets) es) ∙ ap (λ b. has same_name e.targets t || b) (has-flat_map es t)

pub has-targets_of : (entries : List Entry) (t : Name) → has same_name (targets_of entries) t ≡ is_target entries t
has-targets_of entries t = has-firsts same_name nat_list_eq_equiv (flat_map (λ e. e.targets) entries) t ∙ has-flat_map entries t

-- the index has a name where it is a target
pub found-is_target : (entries : List Entry) (targets : List Name) (t : Name) → targets ≡ targets_of entries → list_any (same_name t) targets ≡ is_target entries t
found-is_target entries targets t order =
    sym (has-flip same_name nat_list_eq_equiv targets t) ∙ ap (λ names. has same_name names t) order ∙ has-targets_of entries t

-- a name that is no target has no entries
pub places_none : (entries : List Entry) (n : ℕ) (t : Name) → is_target entries t ≡ false → filter (λ e. names_target t e.1) (enumerate_from n entries) ≡ []
places_none [] n t h = refl
places_none (e ∷ es) n t h =
    let parts : (names_target t e ≡ false) × (is_target es t ≡ false) = or_parts _ _ h in
    ap (λ b. cond b ((n, e) ∷ filter (λ x. names_target t x.1) (enumerate_from (n + 1) es)) (filter (λ x. names_target t x.1) (enumerate_from (n + 1) es))) parts.0
    ∙ places_none es (n + 1) t parts.1

-- the row beside it has the places of its entries
pub row_at : {V : Type 0} (f : V → List ℕ) (entries : List Entry) (targets : List Name) (rows : List V) (t : Name) (i : ℕ) → IsIndexed entries targets (map f rows)
    → position (same_name t) targets ≡ Some i → (v : V) → v ≡ get_or rows i v → f v ≡ places_of entries t
row_at f entries targets rows t i index at v row =
    let found = position-Some (same_name t) targets i t at in
    let same : t ≡ get_or targets i t = same_name-true _ _ found.1 in
    let long : i < length rows = omega (arith, found.0, sym (length-map rows f) ∙ ap length index.rows ∙ length-map targets (places_of entries)) in
    ap f row
    ∙ sym (get_or-map f rows i v [] long)
    ∙ ap (λ all. get_or all i []) index.rows
    ∙ get_or-map (places_of entries) targets i t [] found.0
    ∙ ap (places_of entries) (sym same)

-- each place is that of an entry
places-within : (m n : ℕ) (entries : List Entry) (t : Name) → n + length entries ≤ m
    → All (λ p. p < m) (map (λ e. e.0) (filter (λ e. names_target t e.1) (enumerate_from n entries)))
places-within m n [] t h = All-nil (λ p. p < m)
places-within m n (e ∷ es) t h = by (names_target t e) (places-within m (n + 1) es t (omega (arith, h)))
  where
    by : (b : Bool) → All (λ p. p < m) (map (λ x. x.0) (filter (λ x. names_target t x.1) (enumerate_from (n + 1) es)))
        → All (λ p. p < m) (map (λ x. x.0) (cond b ((n, e) ∷ filter (λ x. names_target t x.1) (enumerate_from (n + 1) es)) (filter (λ x. names_target t x.1) (enumerate_from (n + 1) es))))
    by true rest = All-cons (λ p. p < m) n _ (omega (arith, h)) rest
    by false rest = rest

pub places_of-within : (entries : List Entry) (t : Name) → All (λ p. p < length entries) (places_of entries t)
places_of-within entries t = places-within (length entries) 0 entries t (omega arith)

-- the prerequisites of the entry at a place
abbrev pub prerequisites_at : List Entry → ℕ → List Name
prerequisites_at entries place = get_or (map (λ e. e.prerequisites) entries) place []

-- the entries from a place on
record IsRest (all : List Entry) (n : ℕ) (rest : List Entry) : Type 0 where
  commands : (i : ℕ) → commands_at all (n + i) ≡ commands_at rest i
  prerequisites : (i : ℕ) → prerequisites_at all (n + i) ≡ prerequisites_at rest i

rest_more : (all : List Entry) (n : ℕ) (e : Entry) (es : List Entry) → IsRest all n (e ∷ es) → IsRest all (n + 1) es
rest_more all n e es h = record {
  commands = λ i. ap (commands_at all) (omega arith) ∙ h.commands (suc i);
  prerequisites = λ i. ap (prerequisites_at all) (omega arith) ∙ h.prerequisites (suc i);
}

rest_all : (all : List Entry) → IsRest all 0 all
rest_all all = record {
  commands = λ i. ap (commands_at all) (omega arith);
  prerequisites = λ i. ap (prerequisites_at all) (omega arith);
}

recipe-from : (all : List Entry) (n : ℕ) (entries : List Entry) (t : Name) → IsRest all n entries
    → find (commands_at all) (map (λ e. e.0) (filter (λ e. names_target t e.1) (enumerate_from n entries))) ≡ position_from (gives_commands t) n entries
recipe-from all n [] t h = refl
recipe-from all n (e ∷ es) t h = by (names_target t e) e.has_commands (recipe-from all (n + 1) es t (rest_more all n e es h)) (ap (commands_at all) (omega arith) ∙ h.commands 0)
  where
    by : (b has : Bool) → find (commands_at all) (map (λ x. x.0) (filter (λ x. names_target t x.1) (enumerate_from (n + 1) es))) ≡ position_from (gives_commands t) (n + 1) es
        → commands_at all n ≡ has
        → find (commands_at all) (map (λ x. x.0) (cond b ((n, e) ∷ filter (λ x. names_target t x.1) (enumerate_from (n + 1) es)) (filter (λ x. names_target t x.1) (enumerate_from (n + 1) es))))
        ≡ cond (b && has) (Some n) (position_from (gives_commands t) (n + 1) es)
    by true true rest here = ap (λ c. cond c (Some n) (find (commands_at all) (map (λ x. x.0) (filter (λ x. names_target t x.1) (enumerate_from (n + 1) es))))) here
    by true false rest here = ap (λ c. cond c (Some n) (find (commands_at all) (map (λ x. x.0) (filter (λ x. names_target t x.1) (enumerate_from (n + 1) es))))) here ∙ rest
    by false has rest here = rest

-- the first of the places whose entry has commands is the place of the recipe
pub find-places_of : (entries : List Entry) (t : Name) → find (commands_at entries) (places_of entries t) ≡ recipe_place entries t
find-places_of entries t = recipe-from entries 0 entries t (rest_all entries) ∙ sym (position_from-zero (gives_commands t) entries)

joined-from : (all : List Entry) (n : ℕ) (entries : List Entry) (t : Name) → IsRest all n entries
    → flat_map (prerequisites_at all) (map (λ e. e.0) (filter (λ e. names_target t e.1) (enumerate_from n entries))) ≡ flat_map (λ e. e.prerequisites) (filter (names_target t) entries)
joined-from all n [] t h = refl
joined-from all n (e ∷ es) t h = by (names_target t e) (joined-from all (n + 1) es t (rest_more all n e es h)) (ap (prerequisites_at all) (omega arith) ∙ h.prerequisites 0)
  where
    by : (b : Bool) → flat_map (prerequisites_at all) (map (λ x. x.0) (filter (λ x. names_target t x.1) (enumerate_from (n + 1) es))) ≡ flat_map (λ x. x.prerequisites) (filter (names_target t) es)
        → prerequisites_at all n ≡ e.prerequisites
        → flat_map (prerequisites_at all) (map (λ x. x.0) (cond b ((n, e) ∷ filter (λ x. names_target t x.1) (enumerate_from (n + 1) es)) (filter (λ x. names_target t x.1) (enumerate_from (n + 1) es))))
        ≡ flat_map (λ x. x.prerequisites) (cond b (e ∷ filter (names_target t) es) (filter (names_target t) es))
    by true rest here = cc
    by false rest here = rest

-- the prerequisites at the places of a name are those of the entries that name it
pub flat_map-places_of : (entries : List Entry) (t : Name)
    → flat_map (prerequisites_at entries) (places_of entries t) ≡ flat_map (λ e. e.prerequisites) (filter (names_target t) entries)
flat_map-places_of entries t = joined-from entries 0 entries t (rest_all entries)

-- a name has a recipe where an entry gives it commands
recipe_found : (entries : List Entry) (n : ℕ) (t : Name) → is_some (position_from (gives_commands t) n entries) ≡ has_recipe entries t
recipe_found [] n t = refl
recipe_found (e ∷ es) n t = by (gives_commands t e) (recipe_found es (n + 1) t)
  where
    by : (b : Bool) → is_some (position_from (gives_commands t) (n + 1) es) ≡ has_recipe es t
        → is_some (cond b (Some n) (position_from (gives_commands t) (n + 1) es)) ≡ (b || has_recipe es t)
    by true rest = refl
    by false rest = rest

pub is_some-recipe_place : (entries : List Entry) (t : Name) → is_some (recipe_place entries t) ≡ has_recipe entries t
is_some-recipe_place entries t = ap is_some (position_from-zero (gives_commands t) entries) ∙ recipe_found entries 0 t

-- one of the places of a name has commands where the name has a recipe
pub has_recipe-among : (entries : List Entry) (t : Name) (places : List ℕ) → places ≡ places_of entries t → is_some (find (commands_at entries) places) ≡ has_recipe entries t
has_recipe-among entries t places at =
    ap (λ ps. is_some (find (commands_at entries) ps)) at ∙ ap is_some (find-places_of entries t) ∙ is_some-recipe_place entries t

-- a loop over the places stops at the first whose entry has commands
pub find_here : (entries : List Entry) (places : List ℕ) (i : ℕ) (e : Entry) → i < length places → get_or places i 0 < length entries
    → find (commands_at entries) (drop i places) ≡ find (commands_at entries) places
    → e ≡ get_or entries (get_or places i 0) e → e.has_commands ≡ true → Some (get_or places i 0) ≡ find (commands_at entries) places
find_here entries places i e within inside before is here =
    let place = get_or places i 0 in
    let read : commands_at entries place ≡ true = get_or-map (λ x. x.has_commands) entries place e false inside ∙ ap (λ x. x.has_commands) (sym is) ∙ here in
    sym (ap (λ b. cond b (Some place) (find (commands_at entries) (drop (i + 1) places))) read)
    ∙ sym (ap (find (commands_at entries)) (drop_more places i 0 within))
    ∙ before

-- a step of a loop that joins the prerequisites at some places
pub joined_more : (entries : List Entry) (places : List ℕ) (i : ℕ) (keys new more : List Name) → i < length places
    → keys ≡ firsts same_name (flat_map (prerequisites_at entries) (take i places))
    → slice_get (map (λ e. e.prerequisites) entries) (get_or places i 0) ≡ Some more → new ≡ kept same_name keys more
    → new ≡ firsts same_name (flat_map (prerequisites_at entries) (take (i + 1) places))
joined_more entries places i keys new more within before read step =
    let front = flat_map (prerequisites_at entries) (take i places) in
    let here : prerequisites_at entries (get_or places i 0) ≡ more = get_or_from_slice_get (map (λ e. e.prerequisites) entries) (get_or places i 0) more [] read in
    step
    ∙ ap (λ l. kept same_name l more) before
    ∙ sym (kept-append same_name nat_list_eq_equiv [] front more)
    ∙ ap (λ l. firsts same_name (front ++ l)) (sym here)
    ∙ ap (firsts same_name) (flat_map_more (prerequisites_at entries) [] (take i places) (get_or places i 0))
    ∙ ap (λ l. firsts same_name (flat_map (prerequisites_at entries) l)) (sym (take_more places i 0 within))

-- and at the end there is none
pub find_none : (entries : List Entry) (places : List ℕ) (i : ℕ) → length places ≤ i → find (commands_at entries) (drop i places) ≡ find (commands_at entries) places
    → None ≡ find (commands_at entries) places
find_none entries places i past before = sym (ap (find (commands_at entries)) (drop_all i places past)) ∙ before
