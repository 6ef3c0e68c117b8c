use Rattle.std.proofs.Common.{◌∙◌, sym, ap, is_some}
use Rattle.mk_graph.proofs.Sources.{old_is, old_known, old_none}
use Rattle.mk_graph.proofs.inference.old_suffix.Goals as goal

pub returns-then-is_some-clause-value : goal.returns-then-is_some-clause-value
returns-then-is_some-clause-value c =
    old_is c.args.book.now c.args.name.now c.from_bytes-suffix.result (c.from_bytes-suffix.ensures ∙ c.in_ok-from_slice.ensures.items ∙ c.suffix_of.ensures)
    (sym (c.is_some.ensures ∙ ap is_some c.suffix_place.ensures) ∙ c.if-is_some.true)

pub returns-then-is_some-clause-known : goal.returns-then-is_some-clause-known
returns-then-is_some-clause-known c =
    old_known c.args.book.now c.from_bytes-suffix.result (sym (c.is_some.ensures ∙ ap is_some c.suffix_place.ensures) ∙ c.if-is_some.true)

pub returns-else-is_some-clause-value : goal.returns-else-is_some-clause-value
returns-else-is_some-clause-value c =
    c.from_bytes.ensures ∙ c.new.ensures.items
    ∙ old_none c.args.book.now c.args.name.now c.from_bytes-suffix.result (c.from_bytes-suffix.ensures ∙ c.in_ok-from_slice.ensures.items ∙ c.suffix_of.ensures)
    (sym (c.is_some.ensures ∙ ap is_some c.suffix_place.ensures) ∙ c.if-is_some.false)
