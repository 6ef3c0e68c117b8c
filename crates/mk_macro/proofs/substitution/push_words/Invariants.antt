use Rattle.std.proofs.Common.{◌≤◌, length, Some}
use Rattle.mk_macro.specs.Words.{ComesToSame}
use Rattle.mk_macro.proofs.substitution.push_words.Given as goal

-- what is put, and what the rest comes to, is the whole
abbrev pub invariant-words : goal.invariant-words
invariant-words l = record {
  same : ComesToSame (Some l.change) l.text l.fn.out.items l.rest l.out.items;
  inside : length l.rest ≤ length l.text;
}

abbrev pub decreases-words : goal.decreases-words
decreases-words l = length l.rest
