use Rattle.mk_missing.proofs.Editing.{edit_is_known}
use Rattle.mk_missing.proofs.laws.edit_is_known.Goals as goal

pub returns : goal.returns
returns c = edit_is_known
