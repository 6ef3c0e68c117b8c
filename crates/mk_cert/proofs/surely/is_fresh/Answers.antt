use Rattle.mk_cert.proofs.Timing.{needs_below}
use Rattle.mk_cert.proofs.surely.is_fresh.Goals as goal

pub are_older-requires : goal.are_older-requires
are_older-requires c = needs_below c.args.jobs.now c.args.n c.prerequisites.result.now c.count-count.ensures.valid c.requires c.prerequisites.ensures
