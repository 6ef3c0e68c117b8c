use Rattle.mk_text.proofs.Reduced.{reduced-plain}
use Rattle.mk_text.proofs.spelling.reduced_by_its_end.Goals as goal

pub returns-clause-other : goal.returns-clause-other
returns-clause-other c = reduced-plain
