-- Numbers that others stand above.
use Rattle.std.specs.Prelude.{ℕ, ◌≡◌, ◌<◌, ◌≤◌, ◌⊎◌, List, [], ◌∷◌, true, false, length, take, get_or, Contains, IfNone, IfSome, Option, Some, None}
use Rattle.mk_index.specs.declared.index.Found.{Found}
use Rattle.mk_index.specs.Index.{Index, numbers_of}
use Rattle.mk_index.specs.Ups.{Ups, IsUp}

-- one of these numbers is q, or stands above it
pub record IsMet (ups : Ups) (theirs : List ℕ) (q : ℕ) : Type 0 where
  pub upper : ℕ
  pub over : IsUp ups upper q
  pub there : Contains theirs upper

-- the numbers before a place are below q
abbrev pub AreBelow : List ℕ → ℕ → ℕ → Type 0
AreBelow numbers end q = (k : ℕ) → k < end → get_or numbers k 0 < q

-- some numbers, and others of which one may stand above one of them
pub record Facing : Type 0 where
  pub mine : List ℕ
  pub theirs : List ℕ

-- a number is one of mine and met by theirs, in one of these pairs of lists
abbrev pub IsMetIn : Ups → List Facing → ℕ → Type 0
IsMetIn ups [] o = ⊥
IsMetIn ups (pair ∷ pairs) o = (Contains pair.mine o × IsMet ups pair.theirs o) ⊎ IsMetIn ups pairs o

-- the least number so met, or there is none
abbrev pub IsLeastMet : Ups → List Facing → Option Found → Type 0
IsLeastMet ups pairs None = (o : ℕ) → IsMetIn ups pairs o → ⊥
IsLeastMet ups pairs (Some found) = IsMetIn ups pairs found.number × ((o : ℕ) → IsMetIn ups pairs o → found.number ≤ o)

-- the lists of two nodes in which a path of b is met by one of a, and one of the two is written
abbrev pub facing : Index → ℕ → ℕ → List Facing → List Facing
facing index a b pairs =
    record { mine = numbers_of index b false; theirs = numbers_of index a true }
    ∷ (record { mine = numbers_of index b true; theirs = numbers_of index a false } ∷ (record { mine = numbers_of index b true; theirs = numbers_of index a true } ∷ pairs))

-- a number stands where its place says
pub record Stands (index : Index) (found : Found) : Type 0 where
  pub node : found.place.node < length index.reads
  pub within : found.place.place < length (numbers_of index found.place.node found.place.written)
  pub is : get_or (numbers_of index found.place.node found.place.written) found.place.place 0 ≡ found.number

-- a front of some numbers: those below the best so far, if there is one, or all
pub record IsFront (numbers : List ℕ) (best : Option Found) (front : List ℕ) : Type 0 where
  pub size : ℕ
  pub is : front ≡ take size numbers
  pub all : IfNone best (length numbers ≤ size)
  pub below : IfSome best (λ found. AreBelow numbers size found.number)
  pub rest : IfSome best (λ found. (k : ℕ) → size ≤ k → k < length numbers → found.number ≤ get_or numbers k 0)
