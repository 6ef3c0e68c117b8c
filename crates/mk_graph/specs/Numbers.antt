-- Sets of numbers, and the least of them that pass a test.
use Rattle.std.specs.Prelude.{◌≡◌, ℕ, ◌<◌, ◌≤◌, Bool, false, Option, Some, None, IsTrue}
use Rattle.std.specs.BTreeSet.{contains}
use Rattle.std.specs.declared.collections.BTreeSet.{BTreeSet}
use Rattle.std.specs.Global.{Global}
use Rattle.std.specs.Ordering.{nat_cmp}

-- the set has the number
abbrev pub in_set : BTreeSet ℕ Global → ℕ → Bool
in_set numbers n = contains nat_cmp numbers n

-- the least number from this one on in a set
abbrev pub IsNext : BTreeSet ℕ Global → ℕ → Option ℕ → Type 0
IsNext numbers from None = (n : ℕ) → from ≤ n → in_set numbers n ≡ false
IsNext numbers from (Some least) = (from ≤ least) × IsTrue (in_set numbers least) × ((n : ℕ) → from ≤ n → n < least → in_set numbers n ≡ false)

-- the least number that passes a test
abbrev pub IsLeast : (ℕ → Bool) → Option ℕ → Type 0
IsLeast test None = (n : ℕ) → test n ≡ false
IsLeast test (Some least) = IsTrue (test least) × ((n : ℕ) → n < least → test n ≡ false)
