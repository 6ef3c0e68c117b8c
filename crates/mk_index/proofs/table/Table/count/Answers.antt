use Rattle.std.proofs.Common.{length, sym, ap, ◌∙◌}
use Rattle.mk_index.proofs.Tables.{row_count}
use Rattle.mk_index.proofs.table.Table.count.Goals as goal

pub returns : goal.returns
returns c = c.len.ensures ∙ c.self.inside.ends.ok.0 ∙ sym (row_count 0 c.self.inside.ends.items c.self.inside.numbers.items) ∙ ap length c.self.view_is
