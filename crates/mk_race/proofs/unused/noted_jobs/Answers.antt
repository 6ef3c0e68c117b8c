use Rattle.std.proofs.Common.{◌≡◌, subst, sym}
use Rattle.mk_jobs.specs.Plan.{Plan}
use Rattle.mk_race.specs.Unused.{AreSaidBy, unused_in}
use Rattle.mk_race.proofs.Listed.{on_plan}
use Rattle.mk_race.proofs.unused.noted_jobs.Goals as goal

pub returns : goal.returns
returns c =
    let read = c.args.footprints in
    let same : c.in_ok-jobs.jobs.plan ≡ c.args.plan = on_plan _ c.args.plan read c.in_ok-jobs.jobs c.in_ok-jobs.ensures in (
      c.in_ok-jobs.ensures,
      subst (λ (plan : Plan). AreSaidBy plan.nodes (unused_in read plan.nodes) c.in_ok-unused.unused) (sym same) c.in_ok-unused.ensures,
    )
