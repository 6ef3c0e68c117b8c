use Rattle.mk_sched.proofs.Computed.{missing_header_races}
use Rattle.mk_sched.proofs.worked.missing_header_races.Goals as goal

pub returns : goal.returns
returns c = missing_header_races
