use Rattle.std.proofs.Common.{◌∙◌, sym, ap}
use Rattle.mk_graph.specs.Places.{before_last_period}
use Rattle.mk_graph.specs.Suffix.{from_last_period}
use Rattle.mk_graph.proofs.Tables.{known_noted, on_ok_both, other_noted}
use Rattle.mk_graph.proofs.index.note_name.Goals as goal

pub returns-in_default : goal.returns-in_default
returns-in_default c names =
    other_noted c.args.book.now.suffixes names c.args.table.now c.args.name.now c.from_bytes-suffix.result c.requires
    (c.from_bytes-suffix.ensures ∙ c.in_ok-from_slice.ensures.items ∙ c.from_last_period.ensures ∙ ap from_last_period c.as_bytes.ensures)
    (sym c.suffix_place.ensures ∙ c.in_default.is)

pub returns : goal.returns
returns c =
    on_ok_both c.put_known.result
    (λ keys places names. known_noted c.args.book.now.suffixes names c.args.table.now c.put_known.new.table c.args.name.now c.from_bytes-suffix.result c.from_bytes.result c.in-Some.place c.requires
    (c.from_bytes-suffix.ensures ∙ c.in_ok-from_slice.ensures.items ∙ c.from_last_period.ensures ∙ ap from_last_period c.as_bytes.ensures)
    (c.from_bytes.ensures ∙ c.in_ok-from_slice-2.ensures.items ∙ c.before_last_period-front.ensures ∙ ap before_last_period c.as_bytes-2.ensures)
    (sym c.suffix_place.ensures ∙ c.in-Some.is) keys places)
    c.put_known.ensures.keys c.put_known.ensures.places
