use Rattle.std.proofs.Common.{◌≡◌, ℕ, ◌<◌, false, get_or}
use Rattle.mk_text.specs.Lexical.{is_blank}
use Rattle.mk_lines.proofs.words.split_word.Given as goal

-- none before the place is a blank
abbrev pub invariant-loop-i : goal.invariant-loop-i
invariant-loop-i l = (k : ℕ) → k < l.i → is_blank (get_or l.text k 0) ≡ false
