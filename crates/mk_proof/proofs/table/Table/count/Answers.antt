use Rattle.std.proofs.Common.{length, sym, ap, ◌∙◌, arith}
use Rattle.mk_proof.proofs.Tabled.{length-rows_from}
use Rattle.mk_proof.proofs.table.Table.count.Goals as goal

pub returns : goal.returns
returns c =
    let long = length-rows_from 0 c.self.inside.numbers.items c.self.inside.ends.items in
    c.len.ensures ∙ omega (arith, c.self.inside.ends.ok.0) ∙ sym long ∙ ap length c.self.view_is
