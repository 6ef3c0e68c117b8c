-- Whether a line waits for the tasks that make what it needs.
use Rattle.std.specs.Prelude.{ℕ, ◌≡◌, ◌↔◌, ◌&&◌, ◌||◌, not, Bool, true, false, List, [], Option, find, get_or, length, map, nat_eq, IsTrue}
use Rattle.std.specs.Option.{option_map_or}
use Rattle.mk_name.specs.Names.{Name, has}
use Rattle.mk_jobs.specs.Jobs.{has_commands}
use Rattle.mk_jobs.specs.Numbered.{number_of}
use Rattle.mk_jobs.specs.Plan.{NeedsStandBefore, Node, names_of}

-- what a node stands behind
abbrev pub needs_at : List Node → ℕ → List ℕ
needs_at nodes n = get_or (map (λ (node : Node). node.prerequisites) nodes) n []

-- a node is made: it has a recipe
abbrev pub is_made : List Node → ℕ → Bool
is_made nodes n = get_or (map (λ (node : Node). has_commands node.maker) nodes) n false

-- the nodes of a test, and of the first so many all that they stand behind: from the last down, each that is among them brings its own
abbrev pub with_needs : List Node → ℕ → (ℕ → Bool) → ℕ → Bool
with_needs nodes ℕ.zero test = test
with_needs nodes (ℕ.suc n) test = with_needs nodes n (λ p. test p || (test n && has nat_eq (needs_at nodes n) p))

-- who waits for some nodes waits for these, and for all that they stand behind
abbrev pub is_awaited : List Node → List ℕ → ℕ → Bool
is_awaited nodes waits = with_needs nodes (length nodes) (has nat_eq waits)

-- by these a node is waited for: it is one of them, or another that is waited for stands behind it
pub data IsWaited (nodes : List Node) (waits : List ℕ) : ℕ → Type 0 where
  at_once : {n : ℕ} → IsTrue (has nat_eq waits n) → IsWaited nodes waits n
  through : {m n : ℕ} → IsWaited nodes waits m → IsTrue (has nat_eq (needs_at nodes m) n) → IsWaited nodes waits n

-- who waits for some nodes waits for just those
abbrev pub AwaitedIsWaited : Type 0
AwaitedIsWaited =
    (nodes : List Node) (waits : List ℕ) (n : ℕ) → NeedsStandBefore nodes → (is_awaited nodes waits n ≡ true) ↔ IsWaited nodes waits n

-- a file comes early: a node with a recipe makes it, which is none of a test
abbrev pub is_early : List Node → (ℕ → Bool) → Name → Bool
is_early nodes test x = option_map_or (λ n. is_made nodes n && not (test n)) (number_of (names_of nodes) x) false

-- the first of some files that a node makes for which nobody waits who waits for these
abbrev pub first_early : List Node → List ℕ → List Name → Option Name
first_early nodes waits needs = find (is_early nodes (is_awaited nodes waits)) needs
