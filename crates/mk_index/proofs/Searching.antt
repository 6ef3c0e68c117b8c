-- Searches by halves among numbers that rise.
use Rattle.std.proofs.Common.{ℕ, ◌≡◌, ◌<◌, ◌≤◌, ◌↔◌, List, length, get_or, Bool, true, Contains, Result, Ok, Err, ap, ◌∙◌, inl, inr, arith}
use Rattle.std.specs.Ordering.{nat_cmp}
use Rattle.std.specs.Result.{is_ok}
use Rattle.std.specs.List.Sorted.{IsStrictlyIncreasing, IsBinarySearchResult}
use Rattle.std.proofs.lemmas.Bool.{both_ways, cases_lt, cases_order}
use Rattle.std.proofs.lemmas.List.{get_or_default}
use Rattle.std.proofs.lemmas.List.Kept.{AllPairs-from_increasing}
use Rattle.std.proofs.lemmas.List.Sorted.{searched}

pub in_order : (numbers : List ℕ) → IsStrictlyIncreasing numbers → (i j : ℕ) → i ≤ j → j < length numbers → get_or numbers i 0 ≤ get_or numbers j 0
in_order numbers rise i j most below = elim (cases_order i j) [
  | inl same ↦ omega (arith, ap (λ k. get_or numbers k 0) same)
  | inr (inl less) ↦ omega (arith, AllPairs-from_increasing numbers rise i j 0 less below)
  | inr (inr more) ↦ absurd (omega arith)
]

pub found_is : (numbers : List ℕ) (t : ℕ) (r : Result ℕ ℕ) (found : Bool) → found ≡ is_ok r → IsBinarySearchResult (λ y. nat_cmp y t) numbers r
    → IsStrictlyIncreasing numbers → (found ≡ true) ↔ Contains numbers t
found_is numbers t (Ok i) found is at rise =
    let here = searched numbers t (Ok i) at (in_order numbers rise) in
    (λ _. (i, here.0, get_or_default numbers i t 0 here.0 ∙ here.1), λ _. is)
found_is numbers t (Err i) found is at rise =
    let apart = searched numbers t (Err i) at (in_order numbers rise) in (
      λ yes. absurd (both_ways _ is yes),
      λ there.
          let k = there.0 in
          let same : get_or numbers k 0 ≡ t = get_or_default numbers k 0 t there.1 ∙ there.2 in
          elim (cases_lt k i) [
            | inl less ↦ absurd (omega (arith, apart.1 k less, same))
            | inr most ↦ absurd (omega (arith, apart.2 k most there.1, same))
          ],
    )

pub less_at : (numbers : List ℕ) → IsStrictlyIncreasing numbers → (i j : ℕ) → i < j → j < length numbers → get_or numbers i 0 < get_or numbers j 0
less_at numbers rise i j before below = AllPairs-from_increasing numbers rise i j 0 before below

-- where a number stands, those before it are less, and those behind are not
pub placed_ok : (numbers : List ℕ) (n place : ℕ) → IsBinarySearchResult (λ y. nat_cmp y n) numbers (Ok place) → IsStrictlyIncreasing numbers
    → ((k : ℕ) → k < place → get_or numbers k 0 < n) × ((k : ℕ) → place ≤ k → k < length numbers → n ≤ get_or numbers k 0)
placed_ok numbers n place at rise =
    let here = searched numbers n (Ok place) at (in_order numbers rise) in (
      λ k less. omega (arith, less_at numbers rise k place less here.0, here.1),
      λ k most below. omega (arith, in_order numbers rise place k most below, here.1),
    )

pub placed_err : (numbers : List ℕ) (n place : ℕ) → IsBinarySearchResult (λ y. nat_cmp y n) numbers (Err place) → IsStrictlyIncreasing numbers
    → ((k : ℕ) → k < place → get_or numbers k 0 < n) × ((k : ℕ) → place ≤ k → k < length numbers → n ≤ get_or numbers k 0)
placed_err numbers n place at rise =
    let apart = searched numbers n (Err place) at (in_order numbers rise) in
    (apart.1, λ k most below. omega (arith, apart.2 k most below))
