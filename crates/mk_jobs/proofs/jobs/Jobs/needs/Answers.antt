use Rattle.std.proofs.Common.{◌<◌, sym, subst, arith}
use Rattle.std.specs.List.Sorted.{IsNonDecreasing, IsPermutation}
use Rattle.mk_jobs.specs.Plan.{node_at}
use Rattle.mk_jobs.specs.Jobs.{Jobs, node_count, prerequisites_of}
use Rattle.mk_jobs.proofs.jobs.Jobs.needs.Goals as goal

pub row-requires : goal.row-requires
unfolding node_count
row-requires c =
    let below = subst (λ (jobs : Jobs). c.args.n < node_count jobs) (sym c.self.view_is) c.requires in
    omega (arith, below, c.self.invariant.needed.count)

pub returns-clause-rising : goal.returns-clause-rising
unfolding node_count
returns-clause-rising c =
    let below = subst (λ (jobs : Jobs). c.args.n < node_count jobs) (sym c.self.view_is) c.requires in
    subst IsNonDecreasing (sym c.row.ensures) (c.self.invariant.needed.rows c.args.n below).rising

pub returns-clause-all : goal.returns-clause-all
unfolding node_count prerequisites_of
returns-clause-all c =
    let below = subst (λ (jobs : Jobs). c.args.n < node_count jobs) (sym c.self.view_is) c.requires in
    let all = (c.self.invariant.needed.rows c.args.n below).all in
    subst (λ (jobs : Jobs). IsPermutation (prerequisites_of jobs c.args.n) c.row.result.now) c.self.view_is (subst (IsPermutation (node_at c.self.inside.plan.nodes c.args.n).prerequisites) (sym c.row.ensures) all)
