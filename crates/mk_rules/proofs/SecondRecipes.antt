-- The rule that gives a target commands a second time.
use Rattle.std.proofs.Common.{◌≡◌, ℕ, ◌+◌, ◌<◌, List, [], ◌∷◌, Option, None, Some, Err, refl, sym, ◌∙◌, ap, arith, subst, length, map, slice_get}
use Rattle.std.proofs.lemmas.Option.{slice_get-map}
use Rattle.std.specs.List.{cons_option, enumerate_from, filter_map}
use Rattle.std.specs.Option.{option_map}
use Rattle.mk_name.specs.Names.{Name}
use Rattle.mk_name.specs.declared.fault.Kind.TheVariants.{TwoRecipes}
use Rattle.mk_name.specs.declared.fault.Source.{Source}
use Rattle.mk_rules.specs.Book.{Book, Entry, second_recipe, second_target}
use Rattle.mk_rules.specs.Reading.{BookSays, BookSaysBy}

module _ (all : List Entry) where
  found_in : List (ℕ × Entry) → Option (ℕ × Name)
  found_in rules = slice_get (filter_map (λ e. option_map (λ t. (e.0, t)) (second_target all e)) rules) 0

  -- it stands among the rules
  found_within : (n : ℕ) (rules : List Entry) (second : ℕ × Name) → found_in (enumerate_from n rules) ≡ Some second → second.0 < n + length rules
  unfolding found_in
  found_within n [] second h = absurd cc
  found_within n (rule ∷ rules) second h = by (second_target all (n, rule)) h (found_within (n + 1) rules second)
    where
      by : (o : Option Name) → slice_get (cons_option (option_map (λ t. (n, t)) o) (filter_map (λ e. option_map (λ t. (e.0, t)) (second_target all e)) (enumerate_from (n + 1) rules))) 0 ≡ Some second
          → (found_in (enumerate_from (n + 1) rules) ≡ Some second → second.0 < (n + 1) + length rules) → second.0 < n + length (rule ∷ rules)
      by None e rest = let below : second.0 < (n + 1) + length rules = rest e in omega arith
      by (Some t) e rest =
          let same : (n, t) ≡ second = cc in
          let here : n ≡ second.0 = ap (λ s. s.0) same in
          omega arith

pub second_within : (rules : List Entry) (place : ℕ) (name : Name) → Some (place, name) ≡ second_recipe rules → place < length rules
unfolding found_in
second_within rules place name h = let below : place < 0 + length rules = found_within rules 0 rules (place, name) (sym h) in omega arith

-- where it stands, and what it is known by
pub recipe_reported : (book : Book) (place : ℕ) (name : Name) (source : Source) (line : ℕ) → Some (place, name) ≡ second_recipe book.rules
    → slice_get (map (λ e. e.source) book.rules) place ≡ Some source → slice_get (map (λ e. e.line) book.rules) place ≡ Some line
    → BookSays book (Err (record { kind = TwoRecipes; source = source; place = line; names = name ∷ [] }))
recipe_reported book place name source line h at_source at_line =
    subst (λ (o : Option (ℕ × Name)). BookSaysBy o book (Err (record { kind = TwoRecipes; source = source; place = line; names = name ∷ [] }))) h
    (by (slice_get book.rules place) refl (sym (slice_get-map (λ e. e.source) book.rules place) ∙ at_source) (sym (slice_get-map (λ e. e.line) book.rules place) ∙ at_line))
  where
    by : (o : Option Entry) → slice_get book.rules place ≡ o → option_map (λ e. e.source) o ≡ Some source → option_map (λ e. e.line) o ≡ Some line
        → BookSaysBy (Some (place, name)) book (Err (record { kind = TwoRecipes; source = source; place = line; names = name ∷ [] }))
    by None here s l = absurd cc
    by (Some rule) here s l =
        let same_source : rule.source ≡ source = cc in
        let same_line : rule.line ≡ line = cc in (
          rule,
          here,
          ap (λ x. Err (record { kind = TwoRecipes; source = x; place = line; names = name ∷ [] })) (sym same_source)
              ∙ ap (λ x. Err (record { kind = TwoRecipes; source = rule.source; place = x; names = name ∷ [] })) (sym same_line),
        )
