-- The plain spelling of a path: its name, and what can be spelled.
use Rattle.std.specs.Prelude.{◌≢◌, ℕ, ◌-◌, Bool, false, List, [], ◌∷◌, ◌++◌, length, take, Option, Some, None, Result, Ok, Err, ◌==◌, ◌&&◌, ◌||◌, nat_lt, nat_le, nat_eq, not, fold, codes, if◌then◌else◌}
use Rattle.std.specs.List.{slice_split, join_with_byte, list_all, list_any}
use Rattle.std.specs.Cmp.Lexicographic.{pointwise}
use Rattle.mk_name.specs.Reported.{Reported}
use Rattle.mk_name.specs.declared.fault.Kind.TheVariants.{BadName}
use Rattle.mk_name.specs.declared.fault.Source.{Source}
use Rattle.mk_name.specs.declared.fault.Source.TheVariants.{Makefile, Settings}

-- what stands between the slashes of a path
abbrev pub components : List ℕ → List (List ℕ)
components path = slice_split (λ b. b == 47) path

-- a component that stands for itself: neither nothing, `.` nor `..`
abbrev pub IsPlain : List ℕ → Type 0
IsPlain part = (part ≢ []) × (part ≢ codes ".") × (part ≢ codes "..")

-- whether it stands for itself
abbrev pub is_plain : List ℕ → Bool
is_plain part = not (length part == 0 || pointwise nat_eq part (codes ".")) && not (pointwise nat_eq part (codes ".."))

-- the list without its last item, if it has any
abbrev pub without_last : List (List ℕ) → List (List ℕ)
without_last parts = take (length parts - 1) parts

-- the reduced list of some components and one more at their end:
-- nothing and `.` are dropped, `..` drops the one before it, and any other is kept
abbrev pub one_more : List (List ℕ) → List ℕ → List (List ℕ)
one_more kept part =
    if length part == 0 || pointwise nat_eq part (codes ".") then kept
    else (if pointwise nat_eq part (codes "..") then without_last kept else kept ++ part ∷ [])

-- the reduced list of some components
abbrev pub reduced : List (List ℕ) → List (List ℕ)
reduced parts = fold one_more [] parts

-- what follows the first list in the second, where the second begins with it
abbrev pub below : List (List ℕ) → List (List ℕ) → Option (List (List ℕ))
below [] parts = Some parts
below (first ∷ more) [] = None
below (first ∷ more) (part ∷ parts) = if pointwise nat_eq first part then below more parts else None

-- a name below the root is what follows the root, or `.` where nothing does; any other begins with a slash
abbrev pub spelled : List (List ℕ) → Option (List (List ℕ)) → List ℕ
spelled parts None = 47 ∷ join_with_byte 47 parts
spelled parts (Some []) = codes "."
spelled parts (Some (part ∷ rest)) = join_with_byte 47 (part ∷ rest)

-- the name read off a reduced list, below the root with this reduced list
abbrev pub name_of : List (List ℕ) → List (List ℕ) → List ℕ
name_of root parts = spelled parts (below root parts)

-- the text begins with a slash
abbrev pub is_absolute : List ℕ → Bool
is_absolute [] = false
is_absolute (b ∷ bs) = b == 47

-- the components that a path stands for: its own, after those of the root where it does not begin with a slash
abbrev pub full : List ℕ → List ℕ → List (List ℕ)
full root path = if is_absolute path then components path else components root ++ components path

-- the plain name of a path, below the root with this text
abbrev pub plain_name : List ℕ → List ℕ → List ℕ
plain_name root path = name_of (reduced (components root)) (reduced (full root path))

-- the root with this text, spelled from the top
abbrev pub top_of : List ℕ → List ℕ
top_of root = 47 ∷ join_with_byte 47 (reduced (components root))

-- no byte is NUL or a newline
abbrev pub is_line : List ℕ → Bool
is_line text = list_all (λ b. not (b == 0) && not (b == 10)) text

-- the greatest length of a path, in bytes
abbrev pub path_length : ℕ
path_length = 4096

-- one to 4,096 bytes
abbrev pub has_path_length : List ℕ → Bool
has_path_length text = nat_lt 0 (length text) && nat_le (length text) path_length

-- a path: one to 4,096 bytes, none of them NUL or a newline
abbrev pub is_path : List ℕ → Bool
is_path path = has_path_length path && is_line path

-- a byte that no name in a makefile holds: a control byte, a blank, or one with another meaning to make or a shell
abbrev pub is_left_out : ℕ → Bool
is_left_out b = nat_le b 32 || b == 127 || list_any (λ c. c == b) (codes "#$:;=\\%()*?[\"'&|")

-- no byte is left out
abbrev pub has_name_bytes : List ℕ → Bool
has_name_bytes text = list_all (λ b. not (is_left_out b)) text

-- a word of a makefile that spells a name: one to 4,096 bytes, none of them left out
abbrev pub is_word : List ℕ → Bool
is_word word = has_path_length word && has_name_bytes word

-- a root: a path that begins with a slash
abbrev pub is_root : List ℕ → Bool
is_root text = is_absolute text && is_path text

-- the fault of a text that spells no name, which reports these names
abbrev pub bad_name : Source → List (List ℕ) → Reported
bad_name source names = record { kind = BadName; source = source; place = 0; names = names }

-- what `plain_path` answers
abbrev pub path_name : List ℕ → List ℕ → Result (List ℕ) Reported
path_name root path = if is_path path then Ok (plain_name root path) else Err (bad_name Makefile [])

-- what `plain_word` answers
abbrev pub word_name : List ℕ → List ℕ → Result (List ℕ) Reported
word_name root word = if is_word word then Ok (plain_name root word) else Err (bad_name Makefile (word ∷ []))

-- what `Root::read` answers
abbrev pub root_of : List ℕ → Result (List ℕ) Reported
root_of text = if is_root text then Ok text else Err (bad_name Settings (text ∷ []))
