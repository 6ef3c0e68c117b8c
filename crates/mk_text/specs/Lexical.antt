-- What more than one reader cuts texts by: blanks, physical lines, and the names of macros.
use Rattle.std.specs.Prelude.{ℕ, Bool, List, length, drop, ◌==◌, ◌||◌, ◌&&◌, nat_lt, not}
use Rattle.std.specs.List.{slice_split, list_all, prefix_len}

abbrev pub tab : ℕ
tab = 9

abbrev pub newline : ℕ
newline = 10

abbrev pub space : ℕ
space = 32

abbrev pub backslash : ℕ
backslash = 92

abbrev pub number_sign : ℕ
number_sign = 35

abbrev pub colon : ℕ
colon = 58

abbrev pub semicolon : ℕ
semicolon = 59

abbrev pub equals : ℕ
equals = 61

-- a blank is a space or a tab
abbrev pub is_blank : ℕ → Bool
is_blank b = b == space || b == tab

-- no byte but blanks
abbrev pub are_blanks : List ℕ → Bool
are_blanks bytes = list_all is_blank bytes

-- what stands behind the blanks at the front
abbrev pub past_blanks : List ℕ → List ℕ
past_blanks bytes = drop (prefix_len is_blank bytes) bytes

-- what stands between the newlines of a text; behind a newline at the end there is one more, empty line
abbrev pub physical_lines : List ℕ → List (List ℕ)
physical_lines text = slice_split (λ b. b == newline) text

-- a byte that may stand in a macro's name: no blank, and none of `$ ( ) { } : = #`
abbrev pub is_macro_byte : ℕ → Bool
is_macro_byte b =
    not (is_blank b || b == 36 || b == 40 || b == 41 || b == 123 || b == 125 || b == colon || b == equals || b == number_sign)

-- a macro's name is one or more bytes that may stand in it
abbrev pub is_macro_name : List ℕ → Bool
is_macro_name name = nat_lt 0 (length name) && list_all is_macro_byte name
