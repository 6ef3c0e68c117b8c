use Rattle.mk_cert.proofs.Timing.{needs_below}
use Rattle.mk_cert.proofs.surely.is_stale.Goals as goal

pub is_some_newer-requires : goal.is_some_newer-requires
is_some_newer-requires c = needs_below c.args.jobs.now c.args.n c.prerequisites.result.now c.count-count.ensures.valid c.requires c.prerequisites.ensures
