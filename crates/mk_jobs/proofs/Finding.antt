-- The nodes of a plan by the numbers of their names.
use Rattle.std.proofs.Common.{◌≡◌, ℕ, ◌+◌, ◌<◌, List, [], ◌∷◌, ◌++◌, length, get_or, sym, ◌∙◌, ap, inl, inr, refl, arith, Some, None, Option}
use Rattle.std.specs.Option.{option_map}
use Rattle.std.proofs.lemmas.Bool.{cases_eq}
use Rattle.std.proofs.lemmas.List.{get_or_append_left, get_or-append-add, length-map}
use Rattle.mk_name.specs.Names.{Name}
use Rattle.mk_jobs.specs.Numbered.{number_of}
use Rattle.mk_jobs.specs.Plan.{AreFoundBy, Node, names_of}
use Rattle.mk_jobs.proofs.Numberings.{number_some}

-- one more number in turn
pub turn_more : (old new : List ℕ) (n : ℕ) → length old ≡ n → ((k : ℕ) → k < n → get_or old k 0 ≡ k) → new ≡ old ++ n ∷ [] → (k : ℕ) → k < n + 1 → get_or new k 0 ≡ k
turn_more old new n long each is k below =
    elim (cases_eq k n) [
      | inl e ↦ ap (λ ns. get_or ns k 0) is
          ∙ ap (λ i. get_or (old ++ n ∷ []) i 0) (let same : k ≡ length old + 0 = omega (arith, e, long) in same)
          ∙ get_or-append-add old (n ∷ []) 0 0 ∙ sym e
      | inr other ↦ let less : k < n = omega arith in
          ap (λ ns. get_or ns k 0) is ∙ get_or_append_left old (n ∷ []) 0 k (omega (arith, less, long)) ∙ each k less
    ]

turn : (names : List Name) (places : List ℕ) (x : Name) (o : Option ℕ) → number_of names x ≡ o → ((n : ℕ) → n < length names → get_or places n 0 ≡ n) → o ≡ option_map (λ n. get_or places n 0) o
turn names places x None e each = refl
turn names places x (Some n) e each = ap Some (sym (each n (number_some names x n e).0))

-- names that are numbered as their nodes stand have the numbers of the nodes
pub found_in_turn : (nodes : List Node) (names : List Name) (places : List ℕ) → names ≡ names_of nodes → ((n : ℕ) → n < length names → get_or places n 0 ≡ n) → AreFoundBy nodes names places
found_in_turn nodes names places same each x = ap (λ ns. number_of ns x) (sym same) ∙ turn names places x (number_of names x) refl each

-- there are as many names as nodes
pub names_count : (nodes : List Node) (names : List Name) → names ≡ names_of nodes → length names ≡ length nodes
names_count nodes names same = ap length same ∙ length-map nodes (λ (d : Node). d.name)
