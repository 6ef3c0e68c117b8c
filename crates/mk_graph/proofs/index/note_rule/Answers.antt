use Rattle.std.proofs.Common.{◌∙◌, sym, ap}
use Rattle.std.proofs.lemmas.Result.{on_ok_weaker}
use Rattle.mk_graph.specs.Places.{before_last_period}
use Rattle.mk_graph.specs.Suffix.{from_last_period}
use Rattle.mk_graph.proofs.Tables.{double_read, single_read}
use Rattle.mk_graph.proofs.index.note_rule.Goals as goal

pub returns-then-is_empty : goal.returns-then-is_empty
returns-then-is_empty c =
    on_ok_weaker c.note.result
    (λ notes rules. single_read c.args.book.now.suffixes rules c.args.table.now c.note.new.table c.args.rule.now _ _ c.requires
    (c.before_last_period-front.ensures ∙ ap before_last_period c.as_bytes.ensures) (c.from_last_period-last.ensures ∙ ap from_last_period c.as_bytes-2.ensures)
    (sym c.is_empty.ensures ∙ c.if-is_empty.true) notes)
    c.note.ensures

pub returns-else-is_empty : goal.returns-else-is_empty
returns-else-is_empty c =
    on_ok_weaker c.note-else-is_empty.result
    (λ notes rules. double_read c.args.book.now.suffixes rules c.args.table.now c.note-else-is_empty.new.table c.args.rule.now _ _ c.requires
    (c.before_last_period-front.ensures ∙ ap before_last_period c.as_bytes.ensures) (c.from_last_period-last.ensures ∙ ap from_last_period c.as_bytes-2.ensures)
    (sym c.is_empty.ensures ∙ c.if-is_empty.false) notes)
    c.note-else-is_empty.ensures
