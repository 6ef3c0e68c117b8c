-- Counts of times.
use Rattle.std.specs.Prelude.{◌<◌, ℕ, List, unwrap_or, IfSome}
use Rattle.std.specs.BTreeMap.{is_at}
use Rattle.std.specs.Map.{lookup}
use Rattle.std.specs.Ordering.{nat_cmp}

-- how often a time stands there
abbrev pub count_of : List (ℕ × ℕ) → ℕ → ℕ
count_of counts t = unwrap_or (lookup (is_at (nat_cmp t)) counts) 0

-- no time is kept that stands there no more
abbrev pub HasNoNoughts : List (ℕ × ℕ) → Type 0
HasNoNoughts counts = (t : ℕ) → IfSome (lookup (is_at (nat_cmp t)) counts) (λ n. 0 < n)
