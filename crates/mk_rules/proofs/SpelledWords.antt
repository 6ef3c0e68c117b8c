-- The words of a text, read one after another.
use Rattle.std.proofs.Common.{◌≡◌, ℕ, ◌+◌, ◌<◌, Bool, true, false, cond, not, if◌then◌else◌, List, [], ◌∷◌, ◌++◌, Option, None, Some, Ok, Err, refl, sym, ◌∙◌, ap, length, get_or, map, take, drop}
use Rattle.std.proofs.lemmas.List.{drop_more, map-append, take-append-drop, take_more}
use Rattle.std.proofs.lemmas.List.Folds.{find-append}
use Rattle.std.specs.Option.{option_map_or, option_or}
use Rattle.mk_name.specs.Gives.{Halts}
use Rattle.mk_name.specs.Names.{Name}
use Rattle.mk_name.specs.Reported.{Reported}
use Rattle.mk_name.specs.declared.fault.Halt.{Halt}
use Rattle.mk_name.specs.declared.fault.Halt.TheVariants as halts
use Rattle.mk_name.specs.declared.fault.Source.TheVariants.{Makefile}
use Rattle.mk_text.specs.Spelling.{bad_name, is_word, plain_name, word_name}
use Rattle.mk_rules.specs.Words.{refused_word, spelled_names}

-- a word that spells a name, and one that spells none
spells : (b : Bool) (name out : List ℕ) (bad : Reported) → (if b then Ok name else Err bad) ≡ Ok out → (b ≡ true) × (out ≡ name)
spells true name out bad h = (refl, (cc))
spells false name out bad h = absurd cc

spells_none : (b : Bool) (name : List ℕ) (bad problem : Reported) → (if b then Ok name else Err bad) ≡ Err problem → (b ≡ false) × (problem ≡ bad)
spells_none true name bad problem h = absurd cc
spells_none false name bad problem h = (refl, (cc))

refused_by : (b : Bool) (word : List ℕ) → b ≡ false → cond (not b) (Some word) None ≡ Some word
refused_by true word h = absurd cc
refused_by false word h = refl

passed_by : (b : Bool) (word : List ℕ) → b ≡ true → cond (not b) (Some word) None ≡ None
passed_by true word h = refl
passed_by false word h = absurd cc

first_refused : (b : Bool) (word : List ℕ) (later : Option (List ℕ)) → b ≡ false → cond (not b) (Some word) later ≡ Some word
first_refused true word later h = absurd cc
first_refused false word later h = refl

module _ {V : Type 0} (now : V → List ℕ) (xs : List V) (i : ℕ) (v : V) (within : i < length xs) (is : v ≡ get_or xs i v) where
  -- the front of a list with one more
  front_more : {B : Type 0} (f : V → B) → map f (take (i + 1) xs) ≡ map f (take i xs) ++ f v ∷ []
  front_more f = ap (map f) (take_more xs i v within) ∙ map-append f (take i xs) (get_or xs i v ∷ []) ∙ ap (λ x. map f (take i xs) ++ f x ∷ []) (sym is)

  -- the list, parted at this place
  parted : map now xs ≡ map now (take i xs) ++ now v ∷ map now (drop (i + 1) xs)
  parted = ap (map now) (sym (take-append-drop i xs)) ∙ map-append now (take i xs) (drop i xs)
      ∙ ap (λ l. map now (take i xs) ++ map now l) (drop_more xs i v within ∙ ap (λ l. l ∷ drop (i + 1) xs) (sym is))

  pub names_more : (root : List ℕ) (name : Name) (names new : List Name) → word_name root (now v) ≡ Ok name → names ≡ map (plain_name root) (map now (take i xs)) → new ≡ names ++ name ∷ []
      → new ≡ map (plain_name root) (map now (take (i + 1) xs))
  names_more root name names new spelled before step =
      step ∙ ap (λ l. l ++ name ∷ []) before
      ∙ ap (λ n. map (plain_name root) (map now (take i xs)) ++ n ∷ []) (spells (is_word (now v)) (plain_name root (now v)) name (bad_name Makefile (now v ∷ [])) spelled).1
      ∙ sym (ap (map (plain_name root)) (front_more now) ∙ map-append (plain_name root) (map now (take i xs)) (now v ∷ []))

  pub good_more : (root : List ℕ) (name : Name) → word_name root (now v) ≡ Ok name → refused_word (map now (take i xs)) ≡ None → refused_word (map now (take (i + 1) xs)) ≡ None
  good_more root name spelled before =
      ap refused_word (front_more now)
      ∙ find-append (λ word. not (is_word word)) (map now (take i xs)) (now v ∷ [])
      ∙ ap (λ o. option_or o (refused_word (now v ∷ []))) before
      ∙ passed_by (is_word (now v)) (now v) (spells (is_word (now v)) (plain_name root (now v)) name (bad_name Makefile (now v ∷ [])) spelled).0

  -- a refused word behind good ones is the first
  pub refused_here : (root : List ℕ) (halt : Halt) → Halts halt (word_name root (now v)) → refused_word (map now (take i xs)) ≡ None → Halts halt (spelled_names root (map now xs))
  refused_here root halts.Memory h before = tt
  refused_here root (halts.Fault problem) h before =
      let none = spells_none (is_word (now v)) (plain_name root (now v)) (bad_name Makefile (now v ∷ [])) problem h in
      let first : refused_word (map now xs) ≡ Some (now v) =
      ap refused_word parted
      ∙ find-append (λ word. not (is_word word)) (map now (take i xs)) (now v ∷ map now (drop (i + 1) xs))
      ∙ ap (λ o. option_or o (refused_word (now v ∷ map now (drop (i + 1) xs)))) before
      ∙ first_refused (is_word (now v)) (now v) (refused_word (map now (drop (i + 1) xs))) none.0 in
      ap (λ o. option_map_or (λ word. Err (bad_name Makefile (word ∷ []))) o (Ok (map (plain_name root) (map now xs)))) first
      ∙ ap (λ p. Err p) (sym none.1)
