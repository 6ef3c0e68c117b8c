-- The items of a text, one after another.
use Rattle.std.proofs.Common.{◌≡◌, ℕ, zero, suc, ◌+◌, ◌<◌, ◌≤◌, false, List, [], ◌∷◌, ◌++◌, Option, Some, None, length, map, get_or, take, drop, refl, ◌∙◌, ap, arith, ◌==◌}
use Rattle.std.specs.Prelude.{Bool, true, ◌||◌}
use Rattle.std.specs.List.{position_or_len}
use Rattle.std.specs.Option.{unwrap_or}
use Rattle.std.proofs.lemmas.Bool.{false_from_ne_true}
use Rattle.memchr.specs.Find.{IsFirstByte}
use Rattle.mk_lines.specs.Outside.{dollar}
use Rattle.mk_macro.specs.Reference.{Plain}
use Rattle.mk_macro.specs.References.{behind, dollar_item, dollar_length, holds, items_behind, items_of, item_at, more_bytes}

-- the first bytes are passed over
pub items_skip : (n : ℕ) (text : List ℕ) → items_behind n text ≡ items_of (drop n text)
items_skip zero text = refl
items_skip (suc n) [] = refl
items_skip (suc n) (b ∷ text) = items_skip n text

-- the first item of a text, and the others
pub items_more : (b : ℕ) (text : List ℕ) → items_of (b ∷ text) ≡ item_at b text ∷ items_of (drop (more_bytes b text) text)
items_more b text = ap (λ items. item_at b text ∷ items) (items_skip (more_bytes b text) text)

pub items_from : (text : List ℕ) → 1 ≤ length text → items_of text ≡ item_at (get_or text 0 0) (drop 1 text) ∷ items_of (drop (more_bytes (get_or text 0 0) (drop 1 text)) (drop 1 text))
items_from [] h = absurd (omega arith)
items_from (b ∷ text) h = items_more b text

-- bytes before the first dollar sign stand for themselves
pub items_plain : (n : ℕ) (text : List ℕ) → n ≤ length text → ((i : ℕ) → i < n → (get_or text i 0 == dollar) ≡ false) → items_of text ≡ map Plain (take n text) ++ items_of (drop n text)
items_plain zero text inside plain = refl
items_plain (suc n) [] inside plain = absurd (omega arith)
items_plain (suc n) (b ∷ text) inside plain =
    let no : (b == dollar) ≡ false = plain 0 (omega arith) in
    items_more b text ∙ rw no (ap (λ items. Plain b ∷ items) (items_plain n text (omega arith) (λ i below. plain (suc i) (omega arith))))

pub plain_front : (text : List ℕ) (place : Option ℕ) → IsFirstByte (λ b. b == dollar) text place
    → items_of text ≡ map Plain (take (unwrap_or place (length text)) text) ++ items_of (drop (unwrap_or place (length text)) text)
plain_front text (Some n) first = items_plain n text (omega (arith, first.0.high)) (λ i below. false_from_ne_true (get_or text i 0 == dollar) (first.0.before i (omega arith) below))
plain_front text None none = items_plain (length text) text (omega arith) (λ i below. false_from_ne_true (get_or text i 0 == dollar) (none i (omega arith) below))

pub plain_inside : (text : List ℕ) (place : Option ℕ) → IsFirstByte (λ b. b == dollar) text place → unwrap_or place (length text) ≤ length text
plain_inside text (Some n) first = omega (arith, first.0.high)
plain_inside text None none = omega arith

neither : (a b : Bool) → (a || b) ≡ false → (a ≡ false) × (b ≡ false)
neither true b h = absurd (cc)
neither false b h = (refl, h)

-- without a dollar sign all bytes do
pub all_plain : (text : List ℕ) → holds dollar text ≡ false → items_of text ≡ map Plain text
all_plain [] none = refl
all_plain (b ∷ text) none =
    let parts = neither (b == dollar) (holds dollar text) none in
    let no : (b == dollar) ≡ false = parts.0 in
    items_more b text ∙ rw no (ap (λ items. Plain b ∷ items) (all_plain text parts.1))

-- the items of a text that begins with a dollar sign
pub items_dollar : (text : List ℕ) → 1 ≤ length text → get_or text 0 0 ≡ dollar → items_of text ≡ dollar_item (drop 1 text) ∷ items_of (drop (dollar_length (drop 1 text)) (drop 1 text))
items_dollar [] h e = absurd (omega arith)
items_dollar (b ∷ text) h e = items_more b text ∙ simp e refl

further : (n : ℕ) → 2 + n ≡ suc (n + 1)
further n = omega arith

-- what stands behind a reference in brackets
pub round_behind : (text : List ℕ) → 1 ≤ length text → get_or text 0 0 ≡ 40 → drop (dollar_length text) text ≡ behind 41 (drop 1 text)
round_behind [] h e = absurd (omega arith)
round_behind (b ∷ text) h e = simp e (ap (λ n. drop n (40 ∷ text)) (further (position_or_len (λ b. b == 41) text)))

pub curly_behind : (text : List ℕ) → 1 ≤ length text → get_or text 0 0 ≡ 123 → drop (dollar_length text) text ≡ behind 125 (drop 1 text)
curly_behind [] h e = absurd (omega arith)
curly_behind (b ∷ text) h e = simp e (ap (λ n. drop n (123 ∷ text)) (further (position_or_len (λ b. b == 125) text)))
