-- Tests of lists, and their disjunctions.
use Rattle.std.proofs.Common.{◌≡◌, ◌||◌, Bool, true, false, List, [], ◌∷◌, ◌++◌, map, refl, ap, ◌∙◌}
use Rattle.std.specs.List.{list_any}

-- the cases of some disjunctions
pub or_swap : (a b c d : Bool) → ((a || b) || (c || d)) ≡ ((a || c) || (b || d))
or_swap true b c d = refl
or_swap false true true d = refl
or_swap false true false d = refl
or_swap false false true d = refl
or_swap false false false d = refl

-- the order in which the folders of a name are looked for changes nothing
pub or_turned : (a b : Bool) → (a || b) ≡ (b || a)
or_turned true true = refl
or_turned true false = refl
or_turned false true = refl
or_turned false false = refl

pub or_again : (a : Bool) → (a || false) ≡ ((a || false) || a)
or_again true = refl
or_again false = refl

pub or_inwards : (a b c : Bool) → (a || (b || (c || false))) ≡ ((c || b) || a)
or_inwards true true true = refl
or_inwards true true false = refl
or_inwards true false true = refl
or_inwards true false false = refl
or_inwards false true true = refl
or_inwards false true false = refl
or_inwards false false true = refl
or_inwards false false false = refl

pub or_of_dot : (o d : Bool) → (o || (d || false)) ≡ ((d || false) || (d || o))
or_of_dot true true = refl
or_of_dot true false = refl
or_of_dot false true = refl
or_of_dot false false = refl

pub or_of_name : (o d i x : Bool) → (o || (d || (i || (x || false)))) ≡ ((x || i) || (d || o))
or_of_name true true true true = refl
or_of_name true true true false = refl
or_of_name true true false true = refl
or_of_name true true false false = refl
or_of_name true false true true = refl
or_of_name true false true false = refl
or_of_name true false false true = refl
or_of_name true false false false = refl
or_of_name false true true true = refl
or_of_name false true true false = refl
or_of_name false true false true = refl
or_of_name false true false false = refl
or_of_name false false true true = refl
or_of_name false false true false = refl
or_of_name false false false true = refl
or_of_name false false false false = refl

module _ {X : Type 0} where
  pub any_map : {Y : Type 0} (f : Y → Bool) (g : X → Y) (xs : List X) → list_any f (map g xs) ≡ list_any (λ x. f (g x)) xs
  any_map f g [] = refl
  any_map f g (x ∷ xs) = ap (λ b. f (g x) || b) (any_map f g xs)

  pub any_alike : (f g : X → Bool) → ((x : X) → f x ≡ g x) → (xs : List X) → list_any f xs ≡ list_any g xs
  any_alike f g same [] = refl
  any_alike f g same (x ∷ xs) = ap (λ b. b || list_any f xs) (same x) ∙ ap (λ b. g x || b) (any_alike f g same xs)

  pub any_nowhere : (f : X → Bool) → ((x : X) → f x ≡ false) → (xs : List X) → list_any f xs ≡ false
  any_nowhere f none [] = refl
  any_nowhere f none (x ∷ xs) = ap (λ b. b || list_any f xs) (none x) ∙ any_nowhere f none xs

  pub any_either : (f g : X → Bool) (xs : List X) → list_any (λ x. f x || g x) xs ≡ (list_any f xs || list_any g xs)
  any_either f g [] = refl
  any_either f g (x ∷ xs) = ap (λ b. (f x || g x) || b) (any_either f g xs) ∙ or_swap (f x) (g x) (list_any f xs) (list_any g xs)

  pub map_append : {Y : Type 0} (g : X → Y) (xs ys : List X) → map g (xs ++ ys) ≡ map g xs ++ map g ys
  map_append g [] ys = refl
  map_append g (x ∷ xs) ys = ap (λ zs. g x ∷ zs) (map_append g xs ys)
