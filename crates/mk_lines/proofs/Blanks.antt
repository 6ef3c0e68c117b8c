-- Blanks and words, by the places where they end.
use Rattle.std.proofs.Common.{◌≡◌, ℕ, ◌<◌, ◌≤◌, true, false, List, length, get_or, take, drop, sym, ap, ◌∙◌}
use Rattle.std.specs.List.{position_or_len}
use Rattle.std.proofs.lemmas.List.{length-take-le}
use Rattle.std.proofs.lemmas.List.Sums.{position_or_len_is, prefix_len_is}
use Rattle.mk_text.specs.Lexical.{is_blank, past_blanks}
use Rattle.mk_lines.specs.LogicalLines.{first_word, later_words}

-- the blanks end where the first other byte stands
pub past_blanks_at : (text : List ℕ) (i : ℕ) → i ≤ length text → ((k : ℕ) → k < i → is_blank (get_or text k 0) ≡ true) → (i < length text → is_blank (get_or text i 0) ≡ false) → drop i text ≡ past_blanks text
past_blanks_at text i inside blanks stop = ap (λ n. drop n text) (sym (prefix_len_is is_blank text i 0 inside blanks stop))

-- the first word ends where the first blank stands
pub first_word_at : (text from : List ℕ) (i : ℕ) → from ≡ past_blanks text → i ≤ length from → ((k : ℕ) → k < i → is_blank (get_or from k 0) ≡ false) → (i < length from → is_blank (get_or from i 0) ≡ true) → take i from ≡ first_word text
first_word_at text from i is inside word stop =
    let at : position_or_len is_blank from ≡ i = position_or_len_is is_blank from i 0 inside word stop in
    ap (λ n. take n from) (sym at) ∙ ap (λ bytes. take (position_or_len is_blank bytes) bytes) is

pub later_words_at : (text from : List ℕ) (i : ℕ) → from ≡ past_blanks text → i ≤ length from → ((k : ℕ) → k < i → is_blank (get_or from k 0) ≡ false) → (i < length from → is_blank (get_or from i 0) ≡ true) → past_blanks (drop i from) ≡ later_words text
later_words_at text from i is inside word stop =
    let size : length (first_word text) ≡ i = ap length (sym (first_word_at text from i is inside word stop)) ∙ length-take-le i from inside in
    ap (λ n. past_blanks (drop n from)) (sym size) ∙ ap (λ bytes. past_blanks (drop (length (first_word text)) bytes)) is
