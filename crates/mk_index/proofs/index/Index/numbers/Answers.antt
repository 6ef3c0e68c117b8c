use Rattle.std.proofs.Common.{sym, subst}
use Rattle.mk_index.specs.Index.{Index, IsNumberRow}
use Rattle.mk_index.proofs.index.Index.numbers.Goals as goal

pub returns-then-written-clause-row : goal.returns-then-written-clause-row
returns-then-written-clause-row c =
    subst (λ (index : Index). IsNumberRow index.ups c.row.result.now) c.self.view_is
    (subst (IsNumberRow c.self.inside.ups) (sym c.row.ensures) (c.self.invariant.writes c.args.node))

pub returns-else-written-clause-row : goal.returns-else-written-clause-row
returns-else-written-clause-row c =
    subst (λ (index : Index). IsNumberRow index.ups c.row-else-written.result.now) c.self.view_is
    (subst (IsNumberRow c.self.inside.ups) (sym c.row-else-written.ensures) (c.self.invariant.reads c.args.node))
