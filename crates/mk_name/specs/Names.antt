-- Names of files, and lists in which each stands once.
use Rattle.std.specs.Prelude.{◌≡◌, ℕ, Bool, false, List, [], ◌∷◌, ◌++◌, nat_eq, if◌then◌else◌}
use Rattle.std.specs.List.{list_any}
use Rattle.std.specs.Cmp.Lexicographic.{pointwise}

-- a name is its bytes
abbrev pub Name : Type 0
Name = List ℕ

-- two names are the same bytes
abbrev pub same_name : Name → Name → Bool
same_name a b = pointwise nat_eq a b

-- x stands in the list, by a test of equality
abbrev pub has : {X : Type 0} → (X → X → Bool) → List X → X → Bool
has same xs x = list_any (λ y. same y x) xs

-- a front, and then each of the others where it first stands
abbrev pub kept : {X : Type 0} → (X → X → Bool) → List X → List X → List X
kept same front [] = front
kept same front (x ∷ xs) = kept same (if has same front x then front else front ++ x ∷ []) xs

-- each kept where it first stands
abbrev pub firsts : {X : Type 0} → (X → X → Bool) → List X → List X
firsts same xs = kept same [] xs

-- no two are the same
abbrev pub IsDistinct : {X : Type 0} → (X → X → Bool) → List X → Type 0
IsDistinct same [] = Unit {0}
IsDistinct same (x ∷ xs) = (has same xs x ≡ false) × IsDistinct same xs
