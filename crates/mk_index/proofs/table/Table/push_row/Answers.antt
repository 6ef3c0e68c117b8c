use Rattle.std.proofs.Common.{◌∙◌, ◌++◌, ◌∷◌, [], ap}
use Rattle.mk_index.proofs.Tables.{ends_put, rows_put}
use Rattle.mk_index.proofs.table.Table.push_row.Goals as goal

pub invariant_of-self-2 : goal.invariant_of-self-2
invariant_of-self-2 c =
    ends_put c.self.inside.ends.items c.self.inside.numbers.items c.args.row.now c.push.new.self.items c.extend_from_slice.new.self.items c.len-end.result c.self.invariant
    (c.in_ok-push.ensures.items ∙ ap (λ ends. ends ++ c.len-end.result ∷ []) c.reserve.ensures.items) c.in_ok-extend_from_slice.ensures.items
    (c.len-end.ensures ∙ c.extend_from_slice.new.self.ok.0)

pub returns-clause-put : goal.returns-clause-put
returns-clause-put c =
    rows_put c.self.inside.ends.items c.self.inside.numbers.items c.args.row.now c.push.new.self.items c.extend_from_slice.new.self.items c.args.self.now c.len-end.result c.self.invariant
    (c.in_ok-push.ensures.items ∙ ap (λ ends. ends ++ c.len-end.result ∷ []) c.reserve.ensures.items) c.in_ok-extend_from_slice.ensures.items
    (c.len-end.ensures ∙ c.extend_from_slice.new.self.ok.0) c.self.view_is
