-- The text of an object has no newline.
use Rattle.std.proofs.Common.{◌≡◌, ℕ, zero, suc, ◌+◌, ◌^◌, ◌/◌, ◌%◌, ◌<◌, ◌≤◌, Bool, true, false, not, ◌==◌, ◌&&◌, List, [], ◌∷◌, ◌++◌, inl, inr, slice_index, refl, sym, subst, arith, decimal}
use Rattle.std.proofs.lemmas.Bool.{and_parts, cases_eq, cases_lt}
use Rattle.std.proofs.lemmas.Fmt.{decimal_by_steps}
use Rattle.std.proofs.lemmas.List.Elements.{All-append, All-cons, All-nil, All-push}
use Rattle.std.specs.List.{list_all, list_any}
use Rattle.json.specs.Print.{escape_byte, escape, quoted}
use Rattle.json.proofs.Printed.Strings.{escape_byte_plain}
use Rattle.hex.specs.Hex.{IsBytes, encode_lower, encode_with, lower_digits}
use Rattle.serde_json.specs.Data.{Data, null, boolean, number, unsigned, negative, float, string, array, object, Members, no_members, member}
use Rattle.serde_json.specs.Written.{comma_if, compact_text, members_text}
use Rattle.mk_log.specs.Entries.{is_capital}
use Rattle.mk_log.specs.Spelled.{IsOneLine}

-- this byte is no newline
abbrev pub IsInside : ℕ → Type 0
IsInside b = (b == 10) ≡ false

-- the same, by a test
abbrev pub is_one_line : List ℕ → Bool
is_one_line text = list_all (λ b. not (b == 10)) text

inside : (b : Bool) → not b ≡ true → b ≡ false
inside true h = sym h
inside false h = refl

-- a text that passes the test
pub by_test : (text : List ℕ) → is_one_line text ≡ true → IsOneLine text
by_test [] h = All-nil IsInside
by_test (b ∷ text) h =
    let parts = and_parts _ _ h in
    All-cons IsInside b text (inside (b == 10) parts.0) (by_test text parts.1)

-- the escapes of the bytes below this one pass the test
abbrev escapes_pass : ℕ → Bool
escapes_pass zero = true
escapes_pass (suc n) = is_one_line (escape_byte n) && escapes_pass n

escapes_pass_at : (n b : ℕ) → escapes_pass n ≡ true → b < n → is_one_line (escape_byte b) ≡ true
escapes_pass_at zero b h below = absurd (omega arith)
escapes_pass_at (suc n) b h below =
    let parts = and_parts _ _ h in
    elim (cases_eq b n) [
      | inl same ↦ subst (λ x. is_one_line (escape_byte x) ≡ true) (sym same) parts.0
      | inr other ↦ escapes_pass_at n b parts.1 (omega arith)
    ]

controls_pass : escapes_pass 35 ≡ true
unfolding escape_byte
controls_pass = refl

backslash_passes : is_one_line (escape_byte 92) ≡ true
unfolding escape_byte
backslash_passes = refl

plain_inside : (b : ℕ) → 32 ≤ b → (b == 10) ≡ false
plain_inside b high = grind arith

-- what stands in a string for a byte
escape_byte_inside : (b : ℕ) → IsOneLine (escape_byte b)
escape_byte_inside b =
    elim (cases_lt b 35) [
      | inl low ↦ by_test _ (escapes_pass_at 35 b controls_pass low)
      | inr high ↦
          elim (cases_eq b 92) [
            | inl same ↦ subst (λ x. IsOneLine (escape_byte x)) (sym same) (by_test _ backslash_passes)
            | inr other ↦
                let quote : b ≡ 34 → ⊥ = λ e. omega arith in
                rw (escape_byte_plain b quote other (omega arith)) (All-cons IsInside b [] (plain_inside b (omega arith)) (All-nil IsInside))
          ]
    ]

escape_inside : (text : List ℕ) → IsOneLine (escape text)
escape_inside [] = All-nil IsInside
escape_inside (b ∷ text) = All-append IsInside (escape_byte b) (escape text) (escape_byte_inside b) (escape_inside text)

pub quoted_inside : (text : List ℕ) → IsOneLine (quoted text)
quoted_inside text =
    All-cons IsInside 34 _ refl (All-push IsInside (escape text) 34 (escape_inside text) refl)

-- a number in decimal
digit_inside : (n : ℕ) → ((48 + n) == 10) ≡ false
digit_inside n = grind arith

pub decimal_inside : (n : ℕ) → n < 2 ^ 64 → IsOneLine (decimal n)
decimal_inside n fits =
    decimal_by_steps (λ _ text. IsOneLine text)
    (λ n small. All-cons IsInside (48 + n) [] (digit_inside n) (All-nil IsInside))
    (λ n text large before. All-push IsInside text (48 + n % 10) before (digit_inside (n % 10)))
    n fits

-- the data of a log: no lists, and numbers are whole and have 64 bits
abbrev mutual
  pub IsFlat : Data → Type 0
  IsFlat null = Unit {0}
  IsFlat (boolean b) = ⊥
  IsFlat (number (unsigned n)) = n < 2 ^ 64
  IsFlat (number (negative z)) = ⊥
  IsFlat (number (float x)) = ⊥
  IsFlat (string text) = Unit {0}
  IsFlat (array items) = ⊥
  IsFlat (object ms) = AreFlat ms

  pub AreFlat : Members → Type 0
  AreFlat no_members = Unit {0}
  AreFlat (member key d ms) = IsFlat d × AreFlat ms

-- the text of a member and of those behind it
named_inside : (key text more : List ℕ) → IsOneLine text → IsOneLine more → IsOneLine (quoted key ++ 58 ∷ (text ++ more))
named_inside key text more first rest =
    All-append IsInside (quoted key) (58 ∷ (text ++ more)) (quoted_inside key)
    (All-cons IsInside 58 (text ++ more) refl (All-append IsInside text more first rest))

member_inside : (later : Bool) (key text more : List ℕ) → IsOneLine text → IsOneLine more → IsOneLine (comma_if later ++ (quoted key ++ 58 ∷ (text ++ more)))
member_inside true key text more first rest = All-cons IsInside 44 (quoted key ++ 58 ∷ (text ++ more)) refl (named_inside key text more first rest)
member_inside false key text more first rest = named_inside key text more first rest

mutual
  pub flat_inside : (d : Data) → IsFlat d → IsOneLine (compact_text d)
  flat_inside null flat = by_test (compact_text null) refl
  flat_inside (boolean b) flat = absurd flat
  flat_inside (number (unsigned n)) flat = decimal_inside n flat
  flat_inside (number (negative z)) flat = absurd flat
  flat_inside (number (float x)) flat = absurd flat
  flat_inside (string text) flat = quoted_inside text
  flat_inside (array items) flat = absurd flat
  flat_inside (object ms) flat = All-cons IsInside 123 (members_text false ms) refl (members_inside false ms flat)

  members_inside : (later : Bool) (ms : Members) → AreFlat ms → IsOneLine (members_text later ms)
  members_inside later no_members flat = All-cons IsInside 125 [] refl (All-nil IsInside)
  members_inside later (member key d ms) flat =
      member_inside later key (compact_text d) (members_text true ms) (flat_inside d flat.0) (members_inside true ms flat.1)

-- ---- hexadecimal

abbrev digits_pass : ℕ → Bool
digits_pass zero = true
digits_pass (suc n) = not (is_capital (slice_index lower_digits n)) && digits_pass n

digit_small : (n d : ℕ) → digits_pass n ≡ true → d < n → is_capital (slice_index lower_digits d) ≡ false
digit_small zero d h below = absurd (omega arith)
digit_small (suc n) d h below =
    let parts = and_parts _ _ h in
    elim (cases_eq d n) [
      | inl same ↦ subst (λ x. is_capital (slice_index lower_digits x) ≡ false) (sym same) (inside _ parts.0)
      | inr other ↦ digit_small n d parts.1 (omega arith)
    ]

pub no_capital : (bytes : List ℕ) → IsBytes bytes → list_any is_capital (encode_lower bytes) ≡ false
unfolding encode_with
no_capital [] small = refl
no_capital (b ∷ bytes) small =
    let fits : b < 256 = small 0 in
    let high : b / 16 < 16 = omega arith in
    let low : b % 16 < 16 = omega arith in
    rw (digit_small 16 (b / 16) refl high, digit_small 16 (b % 16) refl low) (no_capital bytes (λ k. small (suc k)))
