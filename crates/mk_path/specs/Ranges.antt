-- What a path covers of a rising list of names, as ranges of byte order.
use Rattle.std.specs.Prelude.{ℕ, ◌==◌, ◌&&◌, ◌||◌, ◌+◌, not, Bool, true, false, List, [], ◌∷◌, length, slice_index_or, nat_lt, codes, Option, None, Some, if◌then◌else◌}
use Rattle.std.specs.Cmp.Lexicographic.{slice_cmp}
use Rattle.std.specs.List.{position_or_len}
use Rattle.std.specs.Ordering.{is_lt, nat_cmp}
use Rattle.mk_name.specs.Names.{Name, same_name}
use Rattle.mk_text.specs.Spelling.{is_absolute}

-- the place of the first name that passes, other than the own one; or how many names there are
abbrev pub first_place : (Name → Bool) → Name → List Name → ℕ
first_place test own names = position_or_len (λ x. not (same_name own x) && test x) names

-- a name stands before a bound, byte by byte
abbrev pub is_before : Name → Name → Bool
is_before bound x = is_lt (slice_cmp nat_cmp x bound)

-- or before it where there is a bound
abbrev pub is_below_bound : Option Name → Name → Bool
is_below_bound None x = true
is_below_bound (Some high) x = is_before high x

-- a name stands in the range from one bound up to another
abbrev pub is_between : Name → Option Name → Name → Bool
is_between low high x = not (is_before low x) && is_below_bound high x

-- the name that stands at a place
abbrev pub stands_at : List Name → ℕ → (Name → Bool) → Bool
stands_at names place test = nat_lt place (length names) && test (slice_index_or names place [])

-- the place after that one where the own name stands there
abbrev pub past_own : List Name → Name → ℕ → ℕ
past_own names own place = if stands_at names place (same_name own) then place + 1 else place

-- a text has no bytes
abbrev pub has_no_bytes : Name → Bool
has_no_bytes [] = true
has_no_bytes (b ∷ bs) = false

-- a text begins with another and then a slash
abbrev pub goes_on : Name → Name → Bool
goes_on [] x = is_absolute x
goes_on (c ∷ cs) [] = false
goes_on (c ∷ cs) (b ∷ bs) = b == c && goes_on cs bs

-- it stands below a folder of some bytes that it spells
abbrev pub is_inside : Name → Name → Bool
is_inside t x = not (has_no_bytes t) && goes_on t x

-- a folder is `.`, or one that the root stands in, by the root spelled from the top
abbrev pub is_over_names : Name → Name → Bool
is_over_names top t =
    same_name (codes ".") t || (not (same_name top (codes "/")) && (is_inside t top || same_name (codes "/") t))

-- what the tree of a name covers
abbrev pub in_tree : Name → Name → Name → Bool
in_tree top t x =
    (same_name t x || is_inside t x) || ((same_name t (codes "/") && is_absolute x) || (is_over_names top t && not (is_absolute x)))
