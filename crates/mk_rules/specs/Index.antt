-- How a rulebook finds the entries of a name.
use Rattle.std.specs.Prelude.{◌≡◌, ℕ, true, List, [], ◌∷◌, ◌++◌, length, map}
use Rattle.std.specs.List.{All}
use Rattle.mk_name.specs.Names.{Name}
use Rattle.mk_rules.specs.Book.{Entry, places_of, targets_of}
use Rattle.mk_rules.specs.Special.{is_suffix}

-- the targets in first-seen order, and beside each the places of its entries
pub record IsIndexed (entries : List Entry) (targets : List Name) (places : List (List ℕ)) : Type 0 where
  pub order : targets ≡ targets_of entries
  pub rows : places ≡ map (places_of entries) targets

-- what a rulebook holds: an index of its entries, and a list of suffixes
pub record IsBook (entries : List Entry) (targets : List Name) (places : List (List ℕ)) (suffixes : List Name) : Type 0 where
  pub index : IsIndexed entries targets places
  pub each : All (λ s. is_suffix s ≡ true) suffixes

-- the entry with one more target
abbrev pub with_target : Entry → Name → Entry
with_target e t = record e { targets = e.targets ++ t ∷ [] }

-- an index becomes that of the same entries with one more target in the last, which stands at the place
abbrev pub NotesTarget : Name → ℕ → List Name → List (List ℕ) → List Name → List (List ℕ) → Type 0
NotesTarget t place targets places targets' places' =
    (front : List Entry) (e : Entry) → length front ≡ place → IsIndexed (front ++ e ∷ []) targets places
    → IsIndexed (front ++ with_target e t ∷ []) targets' places'

-- an index becomes that of the same entries and one more with these targets, which stands at the place
abbrev pub NotesEntry : List Name → ℕ → List Name → List (List ℕ) → List Name → List (List ℕ) → Type 0
NotesEntry names place targets places targets' places' =
    (front : List Entry) (e : Entry) → length front ≡ place → e.targets ≡ names → IsIndexed front targets places
    → IsIndexed (front ++ e ∷ []) targets' places'
