use Rattle.std.proofs.Common.{◌∙◌, ◌<◌, ap, sym, subst}
use Rattle.mk_jobs.specs.Jobs.{Jobs, node_count, writes_of}
use Rattle.mk_jobs.specs.Shape.{IsRising, IsWellFormed}
use Rattle.mk_jobs.proofs.Accessors.{row_has, row_there}
use Rattle.mk_jobs.proofs.jobs.Jobs.writes.Goals as goal

pub returns-clause-writes : goal.returns-clause-writes
unfolding writes_of
returns-clause-writes c =
    let below = row_has c.self.inside.writes.items _ c.args.n c.self.invariant.shape.all_writes (subst (λ (j : Jobs). c.args.n < node_count j) (sym c.self.view_is) c.requires) in
    c.as_slice.ensures.value ∙ row_there c.self.inside.writes.items c.args.n c.index-row.result.now below c.index-row.ensures
    ∙ ap (λ (j : Jobs). writes_of j c.args.n) c.self.view_is

pub returns-clause-rising : goal.returns-clause-rising
returns-clause-rising c =
    subst IsRising (sym (returns-clause-writes c)) ((subst IsWellFormed c.self.view_is c.self.invariant.shape).writes_rise c.args.n)
