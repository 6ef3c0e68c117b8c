-- The items of a text: bytes that stand for themselves, and references (POSIX.1-2024 XCU make, "Macros").
use Rattle.std.specs.Prelude.{ℕ, zero, suc, ◌+◌, Bool, List, [], ◌∷◌, Option, None, Some, ◌==◌, ◌&&◌, not, if◌then◌else◌}
use Rattle.std.specs.List.{list_any, before_first, after_first, position_or_len}
use Rattle.mk_text.specs.Lexical.{is_macro_name, colon, equals}
use Rattle.mk_lines.specs.Outside.{dollar}
use Rattle.mk_macro.specs.Reference.{Change, Item, Plain, Refers, Broken}

-- a text holds this byte
abbrev pub holds : ℕ → List ℕ → Bool
holds byte text = list_any (λ b. b == byte) text

-- what stands before the first of these bytes, or all; and what stands behind it, or nothing
abbrev pub before : ℕ → List ℕ → List ℕ
before byte text = before_first (λ b. b == byte) text

abbrev pub behind : ℕ → List ℕ → List ℕ
behind byte text = after_first (λ b. b == byte) text

-- what a reference with this name and this substitution is
abbrev pub reference_to : List ℕ → Option Change → Item
reference_to name change = if is_macro_name name then Refers (record { name = name; change = change }) else Broken

-- a reference with a colon: a `=` parts its substitution, which has no `%` (profile)
abbrev pub changing : List ℕ → List ℕ → Item
changing name text =
    if holds equals text && not (holds 37 text)
    then reference_to name (Some (record { from = before equals text; to = behind equals text }))
    else Broken

-- what stands between the brackets of a reference: a name, or a name, a colon and a substitution, and no dollar sign (profile)
abbrev pub bracketed : List ℕ → Item
bracketed inside =
    if holds dollar inside then Broken
    else (if holds colon inside then changing (before colon inside) (behind colon inside)
    else reference_to inside None)

-- a reference that ends at the first closing bracket of the text
abbrev pub closed_by : ℕ → List ℕ → Item
closed_by closing text = if holds closing text then bracketed (before closing text) else Broken

-- the item that a dollar sign begins before this text: `$$`, a reference in brackets, or one of a single byte
abbrev pub dollar_item : List ℕ → Item
dollar_item [] = Broken
dollar_item (b ∷ text) =
    if b == dollar then Plain dollar
    else (if b == 40 then closed_by 41 text
    else (if b == 123 then closed_by 125 text
    else reference_to (b ∷ []) None))

-- how many bytes of the text belong to it
abbrev pub bracketed_length : ℕ → List ℕ → ℕ
bracketed_length closing text = 2 + position_or_len (λ b. b == closing) text

abbrev pub dollar_length : List ℕ → ℕ
dollar_length [] = 0
dollar_length (b ∷ text) = if b == 40 then bracketed_length 41 text else (if b == 123 then bracketed_length 125 text else 1)

-- the item that begins with this byte, and how many bytes of the text behind it belong to it
abbrev pub item_at : ℕ → List ℕ → Item
item_at b text = if b == dollar then dollar_item text else Plain b

abbrev pub more_bytes : ℕ → List ℕ → ℕ
more_bytes b text = if b == dollar then dollar_length text else 0

-- the items of a text without its first n bytes
abbrev pub items_behind : ℕ → List ℕ → List Item
items_behind n [] = []
items_behind zero (b ∷ text) = item_at b text ∷ items_behind (more_bytes b text) text
items_behind (suc n) (b ∷ text) = items_behind n text

-- the items of a text: it falls into them in just one way
abbrev pub items_of : List ℕ → List Item
items_of text = items_behind 0 text
