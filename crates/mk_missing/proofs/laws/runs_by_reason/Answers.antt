use Rattle.mk_missing.proofs.Reasons.{runs_by_reason}
use Rattle.mk_missing.proofs.laws.runs_by_reason.Goals as goal

pub returns : goal.returns
returns c = runs_by_reason
