-- Lines cut into words and joined again, and a text cut into whole lines.
use Rattle.std.proofs.Common.{◌≡◌, ℕ, suc, ◌<◌, ◌≤◌, ◌^◌, ◌/◌, ◌%◌, ◌==◌, ◌&&◌, not, Bool, true, false, List, [], ◌∷◌, ◌++◌, length, map, get_or, refl, sym, ap, ap₂, ◌∙◌, arith, append_assoc, eq-eqb}
use Rattle.std.proofs.lemmas.Bool.{agree_below_at, and_parts, ne_eqb, not-true}
use Rattle.std.proofs.lemmas.Fmt.{digits_decimal}
use Rattle.std.proofs.lemmas.List.{append-nil, get_or_default}
use Rattle.std.proofs.lemmas.List.Elements.{All-append, All-cons, All-head, All-nil, All-tail, All-weaker}
use Rattle.std.proofs.lemmas.List.Splits.{join_with_byte-slice_split, length-slice_split, slice_split_at, slice_split_none}
use Rattle.std.proofs.lemmas.Str.Parse.{IsNumeralModel, digit_at, numerals_by_value, tells_digits}
use Rattle.std.specs.Fmt.{decimal}
use Rattle.std.specs.List.{All, join_with_byte, slice_split}
use Rattle.std.specs.Str.Parse.{AllDigits, digits_value}
use Rattle.hex.specs.Hex.{IsBytes, encode_lower, encode_with, lower_digits}
use Rattle.mk_proof.specs.Drafts.{IsCut}
use Rattle.mk_proof.specs.ProofText.{ProofLine, Word, all_but_last, text_of, whole_lines, words_of, written}

-- ---- bytes that a word lacks

abbrev pub Lacks : ℕ → List ℕ → Type 0
Lacks c word = All (λ b. (b == c) ≡ false) word

-- a test of it
abbrev lacks : ℕ → List ℕ → Bool
lacks c [] = true
lacks c (b ∷ bs) = not (b == c) && lacks c bs

pub Lacks-from : (c : ℕ) (word : List ℕ) → lacks c word ≡ true → Lacks c word
Lacks-from c [] is = All-nil (λ b. (b == c) ≡ false)
Lacks-from c (b ∷ bs) is =
    let both = and_parts (not (b == c)) (lacks c bs) is in
    All-cons (λ x. (x == c) ≡ false) b bs (not-true (b == c) both.0) (Lacks-from c bs both.1)

-- digits are no spaces and no newlines
own : IsNumeralModel (AllDigits 10) (digits_value 10)
own = numerals_by_value (AllDigits 10) tells_digits

pub Lacks-decimal : (c n : ℕ) → c < 48 → n < 2 ^ 64 → Lacks c (decimal n)
Lacks-decimal c n low small = λ k d inside.
    let digit = digit_at (decimal n) k (digits_decimal own n small) inside in
    let same = get_or_default (decimal n) k d 0 inside in
    ne_eqb (get_or (decimal n) k d) c (λ is. omega (arith, digit.0, same, is))

Lacks-encode_with : (c : ℕ) (t bytes : List ℕ) → ((k : ℕ) → k < 16 → (get_or t k 0 == c) ≡ false) → IsBytes bytes → Lacks c (encode_with t bytes)
unfolding encode_with
Lacks-encode_with c t [] digits are = All-nil (λ b. (b == c) ≡ false)
Lacks-encode_with c t (b ∷ bytes) digits are =
    let small : b < 256 = are 0 in
    All-cons (λ x. (x == c) ≡ false) (get_or t (b / 16) 0) (get_or t (b % 16) 0 ∷ encode_with t bytes) (digits (b / 16) (omega arith))
    (All-cons (λ x. (x == c) ≡ false) (get_or t (b % 16) 0) (encode_with t bytes) (digits (b % 16) (omega arith))
    (Lacks-encode_with c t bytes digits (λ i. are (suc i))))

pub Lacks-encode_lower : (bytes : List ℕ) → IsBytes bytes → Lacks 32 (encode_lower bytes) × Lacks 10 (encode_lower bytes)
Lacks-encode_lower bytes are = (
  Lacks-encode_with 32 lower_digits bytes (λ k low. agree_below_at (λ i. get_or lower_digits i 0 == 32) (λ _. false) 16 k refl low) are,
  Lacks-encode_with 10 lower_digits bytes (λ k low. agree_below_at (λ i. get_or lower_digits i 0 == 10) (λ _. false) 16 k refl low) are,
)

-- ---- words

-- the words of a text say it
pub words_same : (s t : List ℕ) → words_of s ≡ words_of t → s ≡ t
words_same s t same = sym (join_with_byte-slice_split 32 s) ∙ ap (join_with_byte 32) same ∙ join_with_byte-slice_split 32 t

-- a text is cut
pub cut_parts : (c : ℕ) (text front back : List ℕ) → IsCut c text front back → slice_split (λ b. b == c) text ≡ front ∷ slice_split (λ b. b == c) back
cut_parts c text front back cut = ap (slice_split (λ b. b == c)) cut.whole ∙ slice_split_at (λ b. b == c) front c back cut.first (eq-eqb c c refl)

-- a text without spaces is one word
pub one_word : (text : List ℕ) → Lacks 32 text → words_of text ≡ text ∷ []
one_word text none = slice_split_none (λ b. b == 32) text none

-- words that lack a byte, joined by it and cut at it
split_join : (c : ℕ) (word : Word) (words : List Word) → All (Lacks c) (word ∷ words)
    → slice_split (λ b. b == c) (join_with_byte c (word ∷ words)) ≡ word ∷ words
split_join c word [] none = slice_split_none (λ b. b == c) word (All-head (Lacks c) word [] none)
split_join c word (next ∷ words) none =
    slice_split_at (λ b. b == c) word c (join_with_byte c (next ∷ words)) (All-head (Lacks c) word (next ∷ words) none) (eq-eqb c c refl)
    ∙ ap (λ (rest : List Word). word ∷ rest) (split_join c next words (All-tail (Lacks c) word (next ∷ words) none))

Lacks-join : (c d : ℕ) (word : Word) (words : List Word) → (c == d) ≡ false → All (Lacks d) (word ∷ words) → Lacks d (join_with_byte c (word ∷ words))
Lacks-join c d word [] apart none = All-head (Lacks d) word [] none
Lacks-join c d word (next ∷ words) apart none =
    All-append (λ b. (b == d) ≡ false) word (c ∷ join_with_byte c (next ∷ words)) (All-head (Lacks d) word (next ∷ words) none)
    (All-cons (λ b. (b == d) ≡ false) c (join_with_byte c (next ∷ words)) apart (Lacks-join c d next words apart (All-tail (Lacks d) word (next ∷ words) none)))

-- ---- lines

-- a word without spaces and newlines, and a line of one or more such words
abbrev pub IsClean : Word → Type 0
IsClean word = Lacks 32 word × Lacks 10 word

abbrev pub IsCleanLine : ProofLine → Type 0
IsCleanLine line = (1 ≤ length line) × All IsClean line

-- what is joined is cut into the same words, and holds no newline
join_words : (line : ProofLine) → IsCleanLine line → words_of (join_with_byte 32 line) ≡ line
join_words [] clean = absurd (omega (arith, clean.0))
join_words (word ∷ words) clean = split_join 32 word words (All-weaker IsClean (Lacks 32) (λ w both. both.0) (word ∷ words) clean.1)

join_newline : (line : ProofLine) → IsCleanLine line → Lacks 10 (join_with_byte 32 line)
join_newline [] clean = absurd (omega (arith, clean.0))
join_newline (word ∷ words) clean = Lacks-join 32 10 word words refl (All-weaker IsClean (Lacks 10) (λ w both. both.1) (word ∷ words) clean.1)

all_but_last-cons : (part : List ℕ) (parts : List (List ℕ)) → 0 < length parts → all_but_last (part ∷ parts) ≡ part ∷ all_but_last parts
all_but_last-cons part [] some = absurd (omega arith)
all_but_last-cons part (next ∷ parts) some = refl

-- the first whole line, and the others
pub whole_lines-cons : (front rest : List ℕ) → Lacks 10 front → whole_lines (front ++ 10 ∷ rest) ≡ words_of front ∷ whole_lines rest
whole_lines-cons front rest none =
    let some = length-slice_split (λ b. b == 10) rest in
    ap (λ (parts : List (List ℕ)). map words_of (all_but_last parts)) (slice_split_at (λ b. b == 10) front 10 rest none refl)
    ∙ ap (map words_of) (all_but_last-cons front (slice_split (λ b. b == 10) rest) (omega arith))

-- without a newline there is none
pub whole_lines-none : (text : List ℕ) → Lacks 10 text → whole_lines text ≡ []
whole_lines-none text none = ap (λ (parts : List (List ℕ)). map words_of (all_but_last parts)) (slice_split_none (λ b. b == 10) text none)

-- what is written is cut into the same lines
pub whole_lines-text_of : (lines : List ProofLine) (rest : List ℕ) → All IsCleanLine lines → whole_lines (text_of lines ++ rest) ≡ lines ++ whole_lines rest
whole_lines-text_of [] rest clean = refl
whole_lines-text_of (line ∷ lines) rest clean =
    let here = All-head IsCleanLine line lines clean in
    let joined = join_with_byte 32 line in
    let apart : (written line ++ text_of lines) ++ rest ≡ joined ++ 10 ∷ (text_of lines ++ rest) =
    append_assoc (joined ++ 10 ∷ []) (text_of lines) rest ∙ append_assoc joined (10 ∷ []) (text_of lines ++ rest) in
    ap whole_lines apart ∙ whole_lines-cons joined (text_of lines ++ rest) (join_newline line here)
    ∙ ap₂ (λ (first : ProofLine) (more : List ProofLine). first ∷ more) (join_words line here) (whole_lines-text_of lines rest (All-tail IsCleanLine line lines clean))

pub whole_lines-text : (lines : List ProofLine) → All IsCleanLine lines → whole_lines (text_of lines) ≡ lines
whole_lines-text lines clean = ap whole_lines (sym (append-nil (text_of lines))) ∙ whole_lines-text_of lines [] clean ∙ append-nil lines
