-- Substitutions at the ends of words (POSIX.1-2024 XCU make, "Macros").
use Rattle.std.specs.Prelude.{ℕ, ◌-◌, List, [], ◌∷◌, ◌++◌, Option, None, Some, length, take, map, filter, nat_eq, if◌then◌else◌}
use Rattle.std.specs.List.{slice_split, ends_with}
use Rattle.mk_text.specs.Lexical.{is_blank}
use Rattle.mk_macro.specs.Reference.{Change}

-- a word, with what stands at its end changed; between two blanks there may be no word
abbrev pub changed_word : Change → List ℕ → List ℕ
changed_word change [] = []
changed_word change (b ∷ bs) =
    if ends_with nat_eq (b ∷ bs) change.from then take (length (b ∷ bs) - length change.from) (b ∷ bs) ++ change.to
    else b ∷ bs

-- words with blanks between them
abbrev pub woven : List (List ℕ) → List ℕ → List ℕ
woven [] blanks = blanks
woven (word ∷ words) [] = word ++ woven words []
woven (word ∷ words) (blank ∷ blanks) = word ++ blank ∷ woven words blanks

-- a text with a substitution made at the end of each of its words; the blanks stay as they are
abbrev pub with_change : Change → List ℕ → List ℕ
with_change change text = woven (map (changed_word change) (slice_split is_blank text)) (filter is_blank text)

-- the same where a reference has a substitution
abbrev pub changed : Option Change → List ℕ → List ℕ
changed None text = text
changed (Some change) text = with_change change text
