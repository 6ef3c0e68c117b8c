use Rattle.std.proofs.Common.{◌<◌, arith, subst, sym}
use Rattle.mk_index.specs.Uses.{IsPlaceOf}
use Rattle.mk_index.proofs.Placing.{placed_of}
use Rattle.mk_jobs.specs.Jobs.{Jobs, node_count}
use Rattle.mk_jobs.specs.Reaching.{uses_of}
use Rattle.mk_jobs.proofs.jobs.Jobs.users_over.Goals as goal

pub users_over-requires : goal.users_over-requires
users_over-requires c =
    let node = subst (λ (jobs : Jobs). c.args.place.node < node_count jobs) (sym c.self.view_is) c.requires.node in
    let within = subst (λ (jobs : Jobs). IsPlaceOf (uses_of jobs) c.args.place) (sym c.self.view_is) c.requires.within in
    placed_of _ _ c.self.invariant.indexed c.args.place (omega (arith, node, c.self.invariant.nodes, c.self.invariant.shape.all_reads)) within
