-- Entries that give commands to a target that has some.
use Rattle.std.proofs.Common.{◌≡◌, ℕ, ◌+◌, ◌<◌, ◌≤◌, Bool, true, false, cond, ◌||◌, ltb, List, [], ◌∷◌, Option, None, Some, refl, sym, ◌∙◌, ap, arith, zero, suc, length, get_or, take, drop, slice_get}
use Rattle.std.proofs.lemmas.Bool.{le-ltb, lt-ltb}
use Rattle.std.proofs.lemmas.Iterator.Adapters.{position_from-zero}
use Rattle.std.proofs.lemmas.List.{drop_all, drop_more}
use Rattle.std.proofs.lemmas.List.FromFn.{get_or-enumerate_from, length-enumerate_from}
use Rattle.std.specs.List.{cons_option, enumerate_from, filter_map, list_any, position_from}
use Rattle.std.specs.Option.{option_map, option_map_or}
use Rattle.mk_name.specs.Names.{Name}
use Rattle.mk_rules.specs.Book.{Entry, gives_commands, has_recipe, recipe_place, second_target}

module _ {X : Type 0} (p : X → Bool) where
  before_none : (b k : ℕ) (xs : List X) → b ≤ k → option_map_or (λ i. ltb i b) (position_from p k xs) false ≡ false
  before_none b k [] h = refl
  before_none b k (x ∷ xs) h = by (p x) (before_none b (k + 1) xs (omega (arith, h)))
    where
      by : (t : Bool) → option_map_or (λ i. ltb i b) (position_from p (k + 1) xs) false ≡ false
          → option_map_or (λ i. ltb i b) (cond t (Some k) (position_from p (k + 1) xs)) false ≡ false
      by true rest = le-ltb k b h
      by false rest = rest

  -- one of the first passes where the first place that passes is below their number
  any-take : (k n : ℕ) (xs : List X) → list_any p (take n xs) ≡ option_map_or (λ i. ltb i (k + n)) (position_from p k xs) false
  any-take k zero xs = sym (before_none (k + 0) k xs (omega arith))
  any-take k (suc n) [] = refl
  any-take k (suc n) (x ∷ xs) = by (p x) (any-take (k + 1) n xs)
    where
      by : (t : Bool) → list_any p (take n xs) ≡ option_map_or (λ i. ltb i ((k + 1) + n)) (position_from p (k + 1) xs) false
          → (t || list_any p (take n xs)) ≡ option_map_or (λ i. ltb i (k + suc n)) (cond t (Some k) (position_from p (k + 1) xs)) false
      by true rest = sym (lt-ltb k (k + suc n) (omega arith))
      by false rest = rest ∙ ap (λ m. option_map_or (λ i. ltb i m) (position_from p (k + 1) xs) false) (omega arith)

-- an entry before a place gives the name commands where the first that does stands before it
pub has_recipe-take : (entries : List Entry) (place : ℕ) (t : Name) → has_recipe (take place entries) t ≡ option_map_or (λ i. ltb i place) (recipe_place entries t) false
has_recipe-take entries place t =
    any-take (gives_commands t) 0 place entries
    ∙ ap (λ n. option_map_or (λ i. ltb i n) (position_from (gives_commands t) 0 entries) false) (omega arith)
    ∙ ap (λ o. option_map_or (λ i. ltb i place) o false) (sym (position_from-zero (gives_commands t) entries))

-- what the entry at a place is known by, if it is such an entry
abbrev pub second_at : List Entry → ℕ × Entry → Option (ℕ × Name)
second_at entries e = option_map (λ t. (e.0, t)) (second_target entries e)

module _ (entries : List Entry) (place : ℕ) (e : Entry) (within : place < length entries) (is : e ≡ get_or entries place e) where
  entry_here : drop place (enumerate_from 0 entries) ≡ (place, e) ∷ drop (place + 1) (enumerate_from 0 entries)
  entry_here =
      drop_more (enumerate_from 0 entries) place (0, e) (omega (arith, within, length-enumerate_from 0 entries))
      ∙ ap (λ x. x ∷ drop (place + 1) (enumerate_from 0 entries))
      (get_or-enumerate_from 0 entries place (0, e) within ∙ ap (λ n. (n, get_or entries place e)) (omega arith) ∙ ap (λ x. (place, x)) (sym is))

  -- a loop over the entries stops at the first
  pub second_here : (first : Option (ℕ × Name)) (t : Name) → slice_get (filter_map (second_at entries) (drop place (enumerate_from 0 entries))) 0 ≡ first
      → Some t ≡ second_target entries (place, e) → Some (place, t) ≡ first
  second_here first t before here =
      ap (λ o. slice_get (cons_option (option_map (λ x. (place, x)) o) (filter_map (second_at entries) (drop (place + 1) (enumerate_from 0 entries)))) 0) here
      ∙ sym (ap (λ l. slice_get (filter_map (second_at entries) l) 0) entry_here)
      ∙ before

  -- and goes on where the entry is none
  pub second_not_here : (first : Option (ℕ × Name)) → slice_get (filter_map (second_at entries) (drop place (enumerate_from 0 entries))) 0 ≡ first
      → None ≡ second_target entries (place, e) → slice_get (filter_map (second_at entries) (drop (place + 1) (enumerate_from 0 entries))) 0 ≡ first
  second_not_here first before here =
      ap (λ o. slice_get (cons_option (option_map (λ x. (place, x)) o) (filter_map (second_at entries) (drop (place + 1) (enumerate_from 0 entries)))) 0) here
      ∙ sym (ap (λ l. slice_get (filter_map (second_at entries) l) 0) entry_here)
      ∙ before

-- and at the end there is none
pub second_none : (entries : List Entry) (place : ℕ) (first : Option (ℕ × Name)) → length entries ≤ place
    → slice_get (filter_map (second_at entries) (drop place (enumerate_from 0 entries))) 0 ≡ first → None ≡ first
second_none entries place first past before =
    sym (ap (λ l. slice_get (filter_map (second_at entries) l) 0) (drop_all place (enumerate_from 0 entries) (omega (arith, past, length-enumerate_from 0 entries)))) ∙ before
