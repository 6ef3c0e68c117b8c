use Rattle.std.proofs.Common.{arith, ap, length, ◌∙◌}
use Rattle.mk_index.proofs.Tables.{row_there, row_bounds, row_found}
use Rattle.mk_index.proofs.table.Table.row.Goals as goal

pub prove-unreachable-requires : goal.prove-unreachable-requires
prove-unreachable-requires c =
    let below = row_there c.self.inside.ends.items c.self.inside.numbers.items c.args.self.now c.args.i c.self.view_is c.requires in
    omega (arith, below, c.if-prove.true, ap length c.as_slice-ends.ensures.value)

pub part-requires : goal.part-requires
part-requires c =
    let bounds = row_bounds c.self.inside.ends.items c.as_slice-ends.result.now c.start_of-start.result c.start_of-end.result c.args.i (length c.self.inside.numbers.items)
    c.as_slice-ends.ensures.value c.self.invariant c.if-prove.false c.start_of-start.ensures c.start_of-end.ensures in
    record { order = bounds.0; within = omega (arith, bounds.1, ap length c.as_slice.ensures.value) }

pub returns : goal.returns
returns c =
    c.part.ensures ∙ row_found c.self.inside.ends.items c.as_slice-ends.result.now c.self.inside.numbers.items c.as_slice.result.now c.args.self.now
    c.start_of-start.result c.start_of-end.result c.args.i c.as_slice-ends.ensures.value c.as_slice.ensures.value c.self.view_is c.if-prove.false c.start_of-start.ensures c.start_of-end.ensures
