use Rattle.std.proofs.Common.{◌+◌, ◌∷◌, ◌∙◌, drop, take, sym, ap, arith}
use Rattle.std.proofs.lemmas.List.{take_rest, length-drop}
use Rattle.mk_text.specs.Lexical.{physical_lines}
use Rattle.mk_lines.specs.Blocks.{blocks_of, ends_in_backslash}
use Rattle.mk_lines.proofs.Cuts.{block_more, block_ends, block_last}
use Rattle.mk_lines.proofs.blocks.split_block.Goals as goal

pub returns-then-not-ends_in_backslash-clause-blocks : goal.returns-then-not-ends_in_backslash-clause-blocks
returns-then-not-ends_in_backslash-clause-blocks c =
    let text = c.args.text.now in
    let start = c.lines.start in
    let end = start + c.in-Some.n in
    let found = rw (take_rest text start) at c.in-Some.ensures in
    (block_ends text start c.in-Some.n found c.lines.line_count (ap (λ k. ends_in_backslash (take k (drop start text))) (omega arith) ∙ sym c.ends_in_backslash.ensures ∙ c.if-not-ends_in_backslash.true) c.lines.invariant.whole).0
    ∙ ap (λ rest. physical_lines (take end text) ∷ blocks_of (physical_lines rest)) (sym (take_rest text (end + 1)))

pub returns-then-not-ends_in_backslash-clause-count : goal.returns-then-not-ends_in_backslash-clause-count
returns-then-not-ends_in_backslash-clause-count c =
    let text = c.args.text.now in
    let start = c.lines.start in
    let found = rw (take_rest text start) at c.in-Some.ensures in
    (block_ends text start c.in-Some.n found c.lines.line_count (ap (λ k. ends_in_backslash (take k (drop start text))) (omega arith) ∙ sym c.ends_in_backslash.ensures ∙ c.if-not-ends_in_backslash.true) c.lines.invariant.whole).1

pub lines-preserved : goal.lines-preserved
lines-preserved c =
    let text = c.args.text.now in
    let start = c.lines.start in
    let found = rw (take_rest text start) at c.in-Some.ensures in
    record {
      inside = omega (arith, found.0.high, length-drop start text);
      counted = omega arith;
      whole = block_more text start c.in-Some.n found c.lines.line_count (ap (λ k. ends_in_backslash (take k (drop start text))) (omega arith) ∙ sym c.ends_in_backslash.ensures ∙ c.if-not-ends_in_backslash.false) c.lines.invariant.whole;
    }

pub returns-clause-blocks : goal.returns-clause-blocks
returns-clause-blocks c =
    (block_last c.args.text.now c.lines.start c.lines.line_count (rw (take_rest c.args.text.now c.lines.start) at c.in_default.ensures) c.lines.invariant.whole).0

pub returns-clause-count : goal.returns-clause-count
returns-clause-count c =
    (block_last c.args.text.now c.lines.start c.lines.line_count (rw (take_rest c.args.text.now c.lines.start) at c.in_default.ensures) c.lines.invariant.whole).1
