-- The first byte outside of references, by a search of bytes.
use Rattle.std.proofs.Common.{◌≡◌, ℕ, zero, suc, ◌+◌, ◌<◌, ◌≤◌, Bool, false, List, [], ◌∷◌, Option, Some, None, length, get_or, drop, arith, refl, ap, ◌∙◌, ◌==◌}
use Rattle.std.specs.Option.{option_map}
use Rattle.mk_lines.specs.Outside.{dollar, place_outside}

pub later_none : (o : Option ℕ) → o ≡ option_map (λ n. n + 0) o
later_none None = refl
later_none (Some n) = ap Some (omega arith)

-- a place of a rest, counted twice
pub later_sum : (j k m : ℕ) (o : Option ℕ) → m ≡ j + k → option_map (λ n. n + k) (option_map (λ n. n + j) o) ≡ option_map (λ n. n + m) o
later_sum j k m None same = refl
later_sum j k m (Some n) same = ap Some (omega arith)

module _ (test : ℕ → Bool) where
  -- a byte that is no dollar sign and does not pass is passed over
  place-next : (x : ℕ) (xs : List ℕ) → (x == dollar) ≡ false → test x ≡ false → place_outside test (x ∷ xs) ≡ option_map (λ n. n + 1) (place_outside test xs)
  place-next x xs plain fails = simp (fails, plain)

  pub place-skip : (k : ℕ) (xs : List ℕ) → k ≤ length xs → ((i : ℕ) → i < k → (get_or xs i 0 == dollar) ≡ false) → ((i : ℕ) → i < k → test (get_or xs i 0) ≡ false) → place_outside test xs ≡ option_map (λ n. n + k) (place_outside test (drop k xs))
  place-skip zero xs inside plain fails = later_none (place_outside test xs)
  place-skip (suc k) [] inside plain fails = absurd (omega arith)
  place-skip (suc k) (x ∷ xs) inside plain fails =
      place-next x xs (plain 0 (omega arith)) (fails 0 (omega arith))
      ∙ ap (option_map (λ n. n + 1)) (place-skip k xs (omega arith) (λ i below. plain (suc i) (omega arith)) (λ i below. fails (suc i) (omega arith)))
      ∙ later_sum k 1 (suc k) (place_outside test (drop k xs)) (omega arith)
