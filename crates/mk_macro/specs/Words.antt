-- A text by its words, whatever follows it.
use Rattle.std.specs.Prelude.{◌≡◌, ℕ, false, List, ◌++◌, Option, None, Some, length, max}
use Rattle.std.specs.List.{list_any}
use Rattle.mk_text.specs.Lexical.{is_blank}
use Rattle.mk_macro.specs.Reference.{Change}
use Rattle.mk_macro.specs.Substitution.{changed, changed_word, with_change}

-- no blank stands in the text
abbrev pub IsOneWord : List ℕ → Type 0
IsOneWord text = list_any is_blank text ≡ false

-- a substitution changes the end of the first word, leaves the blank, and goes on behind it
abbrev pub AreWords : List ℕ → List ℕ → List ℕ → List ℕ → Type 0
AreWords text word blank others =
    (change : Change) (later : List ℕ) → with_change change (text ++ later) ≡ changed_word change word ++ blank ++ with_change change (others ++ later)

-- so many bytes at the end of a text may be changed once it goes on: one at least, which says that there is a word
abbrev pub reach : Option Change → ℕ
reach None = 0
reach (Some change) = max 1 (length change.from)

-- whatever follows, what is left comes to the same behind one text as the whole did behind the other
abbrev pub ComesToSame : Option Change → List ℕ → List ℕ → List ℕ → List ℕ → Type 0
ComesToSame change whole before left after =
    (later : List ℕ) → after ++ changed change (left ++ later) ≡ before ++ changed change (whole ++ later)
