-- The listing: the files that exist, one path a line.
use Rattle.std.specs.Prelude.{ℕ, ◌+◌, ◌-◌, ◌^◌, List, [], ◌∷◌, ◌++◌, Result, Ok, Err, length, fold, min, ◌==◌, if◌then◌else◌}
use Rattle.std.specs.BTreeSet.{insert_key}
use Rattle.std.specs.Cmp.Lexicographic.{slice_cmp}
use Rattle.std.specs.Ordering.{nat_cmp}
use Rattle.mk_text.specs.Lexical.{physical_lines}
use Rattle.mk_text.specs.Spelling.{path_name}
use Rattle.mk_name.specs.Reported.{Reported}
use Rattle.mk_name.specs.declared.fault.Source.TheVariants.{Listing}

-- the physical lines of a text
abbrev pub lines : List ℕ → List (List ℕ)
lines text = physical_lines text

-- the place after this one; what would pass the greatest place stays there
abbrev pub next_place : ℕ → ℕ
next_place place = min (place + 1) (2 ^ 64 - 1)

-- names put among others, which stand in their order, byte by byte, each once
abbrev pub put_among : List (List ℕ) → List (List ℕ) → List (List ℕ)
put_among others names = fold (insert_key (slice_cmp nat_cmp)) others names

-- names in this order
abbrev pub in_order : List (List ℕ) → List (List ℕ)
in_order names = put_among [] names

-- a fault of the listing at this line
abbrev pub at_line : ℕ → Result (List ℕ) Reported → Result (List (List ℕ)) Reported
at_line place (Ok name) = Ok (name ∷ [])
at_line place (Err fault) = Err (record fault { source = Listing; place = place })

-- the name of a line: none of an empty one
abbrev pub line_names : List ℕ → ℕ → List ℕ → Result (List (List ℕ)) Reported
line_names root place line = if length line == 0 then Ok [] else at_line place (path_name root line)

-- the names of both, or the first fault
abbrev pub both : Result (List (List ℕ)) Reported → Result (List (List ℕ)) Reported → Result (List (List ℕ)) Reported
both (Err fault) names = Err fault
both (Ok names) (Err fault) = Err fault
both (Ok names) (Ok more) = Ok (names ++ more)

-- the names of lines, of which the first is at this place
abbrev pub names_from : List ℕ → ℕ → List (List ℕ) → Result (List (List ℕ)) Reported
names_from root place [] = Ok []
names_from root place (line ∷ more) = both (line_names root place line) (names_from root (next_place place) more)

-- these names put among others
abbrev pub with_names : List (List ℕ) → Result (List (List ℕ)) Reported → Result (List (List ℕ)) Reported
with_names others (Err fault) = Err fault
with_names others (Ok names) = Ok (put_among others names)

-- what `Listing::read` answers: the names of its lines in order, each once, or the first fault
abbrev pub listing_of : List ℕ → List ℕ → Result (List (List ℕ)) Reported
listing_of root text = with_names [] (names_from root 1 (lines text))
