use Rattle.std.proofs.Common.{length, sym, arith}
use Rattle.std.proofs.lemmas.List.Sums.{prefix_len_is}
use Rattle.mk_text.specs.Lexical.{is_blank}
use Rattle.mk_lines.proofs.words.count_blanks.Goals as goal

pub returns-then-not-is_blank-clause-count : goal.returns-then-not-is_blank-clause-count
returns-then-not-is_blank-clause-count c =
    sym (prefix_len_is is_blank c.args.text.now c.loop-i.i 0 (omega arith) c.loop-i.invariant (λ _. cc))

pub returns-clause-count : goal.returns-clause-count
returns-clause-count c =
    let text = c.args.text.now in
    sym (prefix_len_is is_blank text (length text) 0 (omega arith) (λ k below. c.loop-i.invariant k (omega arith)) (λ inside. absurd (omega arith)))
