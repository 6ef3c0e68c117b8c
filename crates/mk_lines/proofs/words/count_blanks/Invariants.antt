use Rattle.std.proofs.Common.{◌≡◌, ℕ, ◌<◌, true, get_or}
use Rattle.mk_text.specs.Lexical.{is_blank}
use Rattle.mk_lines.proofs.words.count_blanks.Given as goal

-- all before the place are blanks
abbrev pub invariant-loop-i : goal.invariant-loop-i
invariant-loop-i l = (k : ℕ) → k < l.i → is_blank (get_or l.text k 0) ≡ true
