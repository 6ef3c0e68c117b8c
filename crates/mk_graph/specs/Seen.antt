-- Marks of the numbers that stand in a row.
use Rattle.std.specs.Prelude.{◌≡◌, ℕ, ◌<◌, Bool, true, false, List, [], length, get_or, Option, Some, None, Vec, nat_eq}
use Rattle.std.specs.Global.{Global}
use Rattle.std.specs.List.{flat_map}
use Rattle.std.specs.Option.{option_to_list}
use Rattle.mk_name.specs.Names.{Name, has, firsts, kept}
use Rattle.mk_rules.specs.Book.{Entry, places_of}
use Rattle.mk_jobs.specs.Numbered.{name_at}
use Rattle.mk_graph.specs.Rows.{row}

-- each number is marked where it stands in the row
abbrev pub IsSeen : List Bool → List ℕ → Type 0
IsSeen seen row = (n : ℕ) → n < length seen → get_or seen n false ≡ has nat_eq row n

-- the numbers of a rule, each where it first stands; none where it was not read
abbrev pub firsts_of : Option (Vec ℕ Global) → List ℕ
firsts_of None = []
firsts_of (Some numbers) = firsts nat_eq numbers.items

-- the numbers are below a bound
abbrev pub AllBelow : ℕ → Option (Vec ℕ Global) → Type 0
AllBelow bound None = Unit {0}
AllBelow bound (Some numbers) = (n : ℕ) → has nat_eq numbers.items n ≡ true → n < bound

-- the numbers of a name's prerequisites, by the rows of its rules
abbrev pub joined_of : List Entry → List (Vec ℕ Global) → Name → List ℕ
joined_of rules entries x = firsts nat_eq (flat_map (row entries) (places_of rules x))

-- a row, and then the number of a source, unless it is there
abbrev pub with_source : List ℕ → Option ℕ → List ℕ
with_source row source = kept nat_eq row (option_to_list source)

-- the numbers of what the name with a number needs
abbrev pub needs_of : List Entry → List (Vec ℕ Global) → List Name → List (Option ℕ) → ℕ → List ℕ
needs_of rules entries names sources n = with_source (joined_of rules entries (name_at names n)) (get_or sources n None)
