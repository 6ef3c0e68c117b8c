-- What the readers of words and lines find.
use Rattle.std.proofs.Common.{◌≡◌, ℕ, zero, suc, ◌+◌, ◌-◌, ◌*◌, ◌<◌, ◌≤◌, ◌^◌, List, [], ◌∷◌, ◌++◌, Option, None, Some, Ok, Err, length, map, take, get_or, codes, refl, sym, ap, ap₂, ◌∙◌, subst, arith, append_assoc}
use Rattle.std.proofs.lemmas.Fmt.{decimal-digits_value, decimal_digit, decimal_nonempty, digits_decimal, first_decimal, length-decimal-le}
use Rattle.std.proofs.lemmas.Bool.{le-ltb, lt-ltb}
use Rattle.std.proofs.lemmas.Int.Digits.{digits_more, digits_value-lt, digits_value_more}
use Rattle.std.proofs.lemmas.List.{length-take-le, map_push}
use Rattle.std.proofs.lemmas.List.Elements.{All-head, All-push, All-tail}
use Rattle.std.proofs.lemmas.Str.Parse.{IsNumeralModel, digit_at, numerals_by_value, tells_digits}
use Rattle.std.proofs.Math.Nat.{pow-le-pow_right}
use Rattle.std.specs.Char.{digit_value}
use Rattle.std.specs.Fmt.{decimal}
use Rattle.std.specs.List.{All}
use Rattle.std.specs.Str.Parse.{AllDigits, digits_value}
use Rattle.hex.proofs.HexLemmas.{decode_of-encode_lower, decode_of-ok}
use Rattle.hex.specs.Hex.{IsBytes, decode_of, encode_lower}
use Rattle.hex.specs.declared.error.FromHexError.{FromHexError}
use Rattle.mk_proof.proofs.Following.{decimal_same, heads, not_nil, tails}
use Rattle.mk_proof.proofs.Words.{Lacks, Lacks-decimal, Lacks-encode_lower, cut_parts, one_word, words_same}
use Rattle.mk_proof.specs.Drafts.{Finds, IsCut, IsPath, IsShort}
use Rattle.mk_proof.specs.ProofText.{ProofLine, Word, path_line, step_line, words_of}
use Rattle.mk_proof.specs.Shapes.{greatest_node, node_of}
use Rattle.mk_proof.specs.declared.step.Step.{Step}
use Rattle.mk_proof.specs.declared.step.Step.TheVariants.{Skip, Start, Finish}

-- ---- one number

own : IsNumeralModel (AllDigits 10) (digits_value 10)
own = numerals_by_value (AllDigits 10) tells_digits

-- few digits make a small number
pub few_digits : (digits : List ℕ) (k : ℕ) → AllDigits 10 digits → length digits ≤ k → digits_value 10 digits < 10 ^ k
few_digits digits k all few =
    let small = digits_value-lt 10 digits all in
    let most : 10 ^ length digits ≤ 10 ^ k = pow-le-pow_right {n = 10} (omega arith) few in
    omega arith

-- what is read of a text so far
pub record ReadsDigits (text : List ℕ) (i n : ℕ) : Type 0 where
  pub value : n ≡ digits_value 10 (take i text)
  pub digits : AllDigits 10 (take i text)

pub so_far : (text : List ℕ) (i n : ℕ) → ReadsDigits text i n → length text ≤ 7 → i < length text → n < 1000000
so_far text i n reads short inside =
    let long = length-take-le i text (omega arith) in
    let small : digits_value 10 (take i text) < 1000000 = few_digits (take i text) 6 reads.digits (omega arith) in
    omega (arith, reads.value)

pub digit_is : (c : ℕ) → 48 ≤ c → c ≤ 57 → digit_value c ≡ c - 48
digit_is c low high = rw (le-ltb c 48 low, lt-ltb c 58 (omega arith)) refl

-- a digit more
pub digit_more : (text : List ℕ) (i n : ℕ) → ReadsDigits text i n → i < length text → 48 ≤ get_or text i 0 → get_or text i 0 ≤ 57
    → ReadsDigits text (i + 1) (n * 10 + (get_or text i 0 - 48))
digit_more text i n reads inside low high =
    let digit = digit_is (get_or text i 0) low high in
    record {
      value = sym (digits_value_more 10 text i inside ∙ ap₂ (λ (a b : ℕ). a * 10 + b) (sym reads.value) digit);
      digits = digits_more 10 text i inside reads.digits (omega arith);
    }

-- all of a text is read
pub number_some : (text : List ℕ) (n : ℕ) → n ≡ digits_value 10 text → AllDigits 10 text → 0 < length text → length text ≤ 7
    → (get_or text 0 0 ≡ 48 → length text ≡ 1) → (n < 10 ^ 7) × (decimal n ≡ text)
number_some text n value digits some short first =
    let small : digits_value 10 text < 10000000 = few_digits text 7 digits short in (
      omega (arith, value),
      ap decimal value ∙ decimal-digits_value own text digits some first (omega arith),
    )

-- a text that is empty or long, or begins with a zero that is not all of it, writes no number
pub number_shape : (text : List ℕ) (n : ℕ) → n < 10 ^ 7 → decimal n ≡ text → (0 < length text) × (length text ≤ 7) × (get_or text 0 0 ≡ 48 → length text ≡ 1)
number_shape text zero small is =
    let one : length text ≡ 1 = ap length (sym is ∙ decimal_digit 0 (omega arith)) in
    (omega arith, omega arith, λ first. one)
number_shape text (suc n) small is =
    let some = decimal_nonempty (suc n) (omega arith) in
    let few = length-decimal-le 7 (suc n) (omega arith) small (omega arith) in
    let first = first_decimal (suc n) (omega arith) (omega arith) in
    (omega (arith, ap length is), omega (arith, ap length is), λ nought. absurd (omega (arith, ap (λ (t : List ℕ). get_or t 0 0) is)))

-- and one with a byte that is no digit none either
pub number_digit : (text : List ℕ) (n i : ℕ) → n < 10 ^ 7 → decimal n ≡ text → i < length text → (48 ≤ get_or text i 0) × (get_or text i 0 ≤ 57)
number_digit text n i small is inside =
    let digits = subst (AllDigits 10) is (digits_decimal own n (omega arith)) in
    let digit = digit_at text i digits inside in (omega (arith, digit.0), omega (arith, digit.1))

-- ---- words

-- a number is one word
pub number_word : (n : ℕ) (text : List ℕ) → n ≤ 10000000 → decimal n ≡ text → words_of text ≡ decimal n ∷ []
number_word n text small is = ap words_of (sym is) ∙ one_word (decimal n) (Lacks-decimal 32 n (omega arith) (omega arith))

pub word_number : (n : ℕ) (text : List ℕ) → n ≤ 10000000 → decimal n ∷ [] ≡ words_of text → decimal n ≡ text
word_number n text small is = words_same (decimal n) text (number_word n (decimal n) small refl ∙ is)

-- a text without a space is not two words
pub no_two : (text : List ℕ) (first second : Word) (more : ProofLine) → Lacks 32 text → words_of text ≡ first ∷ second ∷ more → ⊥
no_two text first second more none is = not_nil second more (tails text first [] (second ∷ more) (sym (one_word text none) ∙ is))

-- one of the words of mapped values
pub at_word : (numbers : List ℕ) (front : ProofLine) (word : Word) (back : ProofLine) → All IsShort numbers → map decimal numbers ≡ front ++ word ∷ back
    → (n : ℕ) × IsShort n × (decimal n ≡ word)
at_word [] [] word back small same = absurd (not_nil word back same)
at_word [] (first ∷ front) word back small same = absurd (not_nil first (front ++ word ∷ back) same)
at_word (n ∷ numbers) [] word back small same = (n, All-head IsShort n numbers small, heads (decimal n) word (map decimal numbers) back same)
at_word (n ∷ numbers) (first ∷ front) word back small same =
    at_word numbers front word back (All-tail IsShort n numbers small) (tails (decimal n) first (map decimal numbers) (front ++ word ∷ back) same)

-- ---- what is read of the words of a text so far

pub record ReadsWords (text rest numbers : List ℕ) : Type 0 where
  pub words : words_of text ≡ map decimal numbers ++ words_of rest
  pub small : All IsShort numbers

pub one_more : (text rest numbers : List ℕ) (word behind : List ℕ) (n : ℕ) → ReadsWords text rest numbers → IsCut 32 rest word behind
    → IsShort n → decimal n ≡ word → ReadsWords text behind (numbers ++ n ∷ [])
one_more text rest numbers word behind n reads cut small is = record {
  words = reads.words ∙ ap (λ (ls : ProofLine). map decimal numbers ++ ls) (cut_parts 32 rest word behind cut ∙ ap (λ (w : Word). w ∷ words_of behind) (sym is))
      ∙ sym (append_assoc (map decimal numbers) (decimal n ∷ []) (words_of behind)) ∙ ap (λ (ls : ProofLine). ls ++ words_of behind) (sym (map_push decimal numbers n));
  small = All-push IsShort numbers n reads.small small;
}

pub all_words : (text rest numbers : List ℕ) (n : ℕ) → ReadsWords text rest numbers → IsShort n → decimal n ≡ rest
    → All IsShort (numbers ++ n ∷ []) × (map decimal (numbers ++ n ∷ []) ≡ words_of text)
all_words text rest numbers n reads small is = (
  All-push IsShort numbers n reads.small small,
  map_push decimal numbers n ∙ sym (reads.words ∙ ap (λ (ls : ProofLine). map decimal numbers ++ ls) (number_word n rest (omega arith) is)),
)

pub bad_word : (text rest numbers : List ℕ) (word behind : List ℕ) → ReadsWords text rest numbers → IsCut 32 rest word behind
    → ((n : ℕ) → IsShort n → decimal n ≡ word → ⊥) → (all : List ℕ) → All IsShort all → map decimal all ≡ words_of text → ⊥
bad_word text rest numbers word behind reads cut none all small same =
    let found = at_word all (map decimal numbers) word (words_of behind) small (same ∙ reads.words ∙ ap (λ (ls : ProofLine). map decimal numbers ++ ls) (cut_parts 32 rest word behind cut)) in
    none found.0 found.1 found.2

pub bad_last : (text rest numbers : List ℕ) → ReadsWords text rest numbers → Lacks 32 rest
    → ((n : ℕ) → IsShort n → decimal n ≡ rest → ⊥) → (all : List ℕ) → All IsShort all → map decimal all ≡ words_of text → ⊥
bad_last text rest numbers reads last none all small same =
    let found = at_word all (map decimal numbers) rest [] small (same ∙ reads.words ∙ ap (λ (ls : ProofLine). map decimal numbers ++ ls) (one_word rest last)) in
    none found.0 found.1 found.2

-- ---- lines of a word and one number

pub behind_number : (word : Word) (line rest : List ℕ) (n : ℕ) → words_of line ≡ word ∷ words_of rest → n ≤ 10000000
    → word ∷ decimal n ∷ [] ≡ words_of line → decimal n ≡ rest
behind_number word line rest n cut small same = word_number n rest small (tails word word (decimal n ∷ []) (words_of rest) (same ∙ cut))

pub number_behind : (word : Word) (line rest : List ℕ) (n : ℕ) → words_of line ≡ word ∷ words_of rest → n ≤ 10000000
    → decimal n ≡ rest → word ∷ decimal n ∷ [] ≡ words_of line
number_behind word line rest n cut small is = ap (λ (ws : ProofLine). word ∷ ws) (sym (number_word n rest small is)) ∙ sym cut

pub behind_found : (word : Word) (line rest : List ℕ) (found : Option ℕ) → words_of line ≡ word ∷ words_of rest → Finds decimal IsShort rest found
    → Finds (λ n. word ∷ decimal n ∷ []) IsShort (words_of line) found
behind_found word line rest None cut none = λ n small same. none n small (behind_number word line rest n cut (omega arith) same)
behind_found word line rest (Some n) cut found = (found.0, number_behind word line rest n cut (omega (arith, found.0)) found.1)

-- one line says one number
pub number_same : (word : Word) (line : ProofLine) (m n : ℕ) → m ≤ 10000000 → n ≤ 10000000 → word ∷ decimal m ∷ [] ≡ line → word ∷ decimal n ∷ [] ≡ line → m ≡ n
number_same word line m n small large first second = decimal_same m n small large (ap (λ (l : ProofLine). get_or l 1 []) (first ∙ sym second))

pub numbers_same : (word : Word) (line : ProofLine) (p q : ℕ × ℕ) → p.0 ≤ 10000000 → p.1 ≤ 10000000 → q.0 ≤ 10000000 → q.1 ≤ 10000000
    → word ∷ decimal p.0 ∷ decimal p.1 ∷ [] ≡ line → word ∷ decimal q.0 ∷ decimal q.1 ∷ [] ≡ line → (p.0 ≡ q.0) × (p.1 ≡ q.1)
numbers_same word line p q a b c d first second = (
  decimal_same p.0 q.0 a c (ap (λ (l : ProofLine). get_or l 1 []) (first ∙ sym second)),
  decimal_same p.1 q.1 b d (ap (λ (l : ProofLine). get_or l 2 []) (first ∙ sym second)),
)

-- ---- the line of a path

pub bytes_word : (path text : List ℕ) → IsBytes path → encode_lower path ≡ text → words_of text ≡ encode_lower path ∷ []
bytes_word path text are is = ap words_of (sym is) ∙ one_word (encode_lower path) (Lacks-encode_lower path are).0

pub path_found : (line text : List ℕ) (found : Option (List ℕ)) → words_of line ≡ codes "path" ∷ words_of text → Finds encode_lower IsPath text found
    → Finds path_line IsPath (words_of line) found
path_found line text None cut none = λ path is same.
    none path is (words_same (encode_lower path) text (bytes_word path (encode_lower path) is.1 refl ∙ tails (codes "path") (codes "path") (encode_lower path ∷ []) (words_of text) (same ∙ cut)))
path_found line text (Some path) cut found = (found.0, ap (λ (ws : ProofLine). codes "path" ∷ ws) (sym (bytes_word path text found.0.1 found.1)) ∙ sym cut)

-- what does not decode spells nothing
pub not_decoded : (text path : List ℕ) (e : FromHexError) → IsBytes path → encode_lower path ≡ text → decode_of text ≡ Err e → ⊥
not_decoded text path e are is bad =
    let clash : Ok path ≡ Err e = sym (ap decode_of (sym is) ∙ decode_of-encode_lower path are) ∙ bad in cc

-- what decodes is bytes
pub decoded_bytes : (text bytes : List ℕ) → decode_of text ≡ Ok bytes → IsBytes bytes
decoded_bytes text bytes is = (decode_of-ok text bytes is).3

-- ---- the line of a step

pub no_step : (line : ProofLine) → ((n : ℕ) → n ≤ greatest_node → codes "skip" ∷ decimal n ∷ [] ≡ line → ⊥)
    → ((n : ℕ) → n ≤ greatest_node → codes "start" ∷ decimal n ∷ [] ≡ line → ⊥) → ((n : ℕ) → n ≤ greatest_node → codes "finish" ∷ decimal n ∷ [] ≡ line → ⊥)
    → (step : Step) → node_of step ≤ greatest_node → step_line step ≡ line → ⊥
no_step line skip start finish (Skip n) small same = skip n small same
no_step line skip start finish (Start n) small same = start n small same
no_step line skip start finish (Finish n) small same = finish n small same
