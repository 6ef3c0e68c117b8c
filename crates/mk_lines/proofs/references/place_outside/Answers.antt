use Rattle.std.proofs.Common.{◌+◌, ◌-◌, ◌==◌, ◌||◌, length, drop, arith}
use Rattle.std.proofs.lemmas.List.{take_rest, length-take, length-drop}
use Rattle.mk_lines.proofs.Outsides.{sign_from, dollar_from, none_from}
use Rattle.mk_lines.proofs.references.place_outside.Goals as goal

pub returns-then-text-at-ne36-clause-place : goal.returns-then-text-at-ne36-clause-place
returns-then-text-at-ne36-clause-place c =
    let found = rw (take_rest c.args.text.now c.search.start) at c.in-Some.ensures in
    sign_from c.args.first c.args.second c.requires.first c.requires.second c.args.text.now c.search.start c.in-Some.n c.search.invariant.whole found c.if-text-at-ne36.true

pub search-preserved : goal.search-preserved
search-preserved c =
    let text = c.args.text.now in
    let at = c.search.start + c.in-Some.n in
    let found = rw (take_rest text c.search.start) at c.in-Some.ensures in
    let rest = rw (take_rest text (at + 1)) at (c.reference_length.ensures.rest (λ b. b == c.args.first || b == c.args.second)) in
    record {
      inside = omega (arith, found.0.high, c.reference_length.ensures.within, length-take (length text - (at + 1)) (drop (at + 1) text), length-drop (at + 1) text, length-drop c.search.start text);
      whole =
          dollar_from c.args.first c.args.second c.requires.first c.requires.second text c.search.start c.in-Some.n
          c.search.invariant.whole found c.reference_length.result c.if-text-at-ne36.false rest;
    }

pub returns-clause-place : goal.returns-clause-place
returns-clause-place c =
    none_from c.args.first c.args.second c.requires.first c.requires.second c.args.text.now c.search.start
    c.search.invariant.whole (rw (take_rest c.args.text.now c.search.start) at c.in_default.ensures)
