use Rattle.mk_log.proofs.ReadOnce.{read_once}
use Rattle.mk_log.proofs.laws.logs_are_read_once.Goals as goal

pub returns : goal.returns
returns c = read_once
