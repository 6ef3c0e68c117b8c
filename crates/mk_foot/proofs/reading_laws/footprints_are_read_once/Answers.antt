use Rattle.mk_foot.proofs.ReadOnce.{read_once}
use Rattle.mk_foot.proofs.reading_laws.footprints_are_read_once.Goals as goal

pub returns : goal.returns
returns c = read_once
