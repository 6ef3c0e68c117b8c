-- What devices have left to give, and what was written to them. Where that is not known, nothing is said of it.
use Rattle.std.specs.Prelude.{ℕ, Bool, true, false, List, [], Option, None, Some, take}
use Rattle.std.specs.Io.KnownBytes.{Appends}

-- a device that gives bytes: those that are left, where they are known; whether it has failed; how many reads it allows
pub record Giving : Type 0 where
  pub left : Option (List ℕ)
  pub failed : Bool
  pub reads : ℕ

-- a device that takes bytes: those that were written, where they are known; whether it has failed
pub record Taking : Type 0 where
  pub written : Option (List ℕ)
  pub failed : Bool

-- some beginning of the bytes, which may be nothing or all of them, was written behind the others
abbrev pub AppendsBeginning : Option (List ℕ) → Option (List ℕ) → List ℕ → Type 0
AppendsBeginning old new bytes = (n : ℕ) × Appends old new (take n bytes)

-- of no device it is stated whether it can be read to its end
abbrev pub not_stated : {X : Type 0} → X → Option Bool
not_stated device = None

-- a device that may be absent has what it has where it is there; else nothing is left of it, it has not failed, it can be read
-- to its end, and no read gives anything
abbrev pub left_if : {X : Type 0} → (X → Option (List ℕ)) → Option X → Option (List ℕ)
left_if left None = Some []
left_if left (Some device) = left device

abbrev pub has_failed_if : {X : Type 0} → (X → Bool) → Option X → Bool
has_failed_if has_failed None = false
has_failed_if has_failed (Some device) = has_failed device

abbrev pub readable_if : {X : Type 0} → (X → Option Bool) → Option X → Option Bool
readable_if readable None = Some true
readable_if readable (Some device) = readable device

abbrev pub reads_left_if : {X : Type 0} → (X → ℕ) → Option X → ℕ
reads_left_if reads_left None = 0
reads_left_if reads_left (Some device) = reads_left device
