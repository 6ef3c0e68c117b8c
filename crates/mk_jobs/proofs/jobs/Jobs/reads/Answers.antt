use Rattle.std.proofs.Common.{◌∙◌, ◌<◌, ap, sym, subst}
use Rattle.mk_jobs.specs.Jobs.{Jobs, node_count, reads_of}
use Rattle.mk_jobs.specs.Shape.{IsRising, IsWellFormed}
use Rattle.mk_jobs.proofs.Accessors.{row_has, row_there}
use Rattle.mk_jobs.proofs.jobs.Jobs.reads.Goals as goal

pub returns-clause-reads : goal.returns-clause-reads
unfolding reads_of
returns-clause-reads c =
    let below = row_has c.self.inside.reads.items _ c.args.n c.self.invariant.shape.all_reads (subst (λ (j : Jobs). c.args.n < node_count j) (sym c.self.view_is) c.requires) in
    c.as_slice.ensures.value ∙ row_there c.self.inside.reads.items c.args.n c.index-row.result.now below c.index-row.ensures
    ∙ ap (λ (j : Jobs). reads_of j c.args.n) c.self.view_is

pub returns-clause-rising : goal.returns-clause-rising
returns-clause-rising c =
    subst IsRising (sym (returns-clause-reads c)) ((subst IsWellFormed c.self.view_is c.self.invariant.shape).reads_rise c.args.n)
