use Rattle.mk_due.proofs.Waiting.{awaited}
use Rattle.mk_due.proofs.laws.awaited_is_waited.Goals as goal

pub returns : goal.returns
returns c = awaited
