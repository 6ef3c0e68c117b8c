use Rattle.mk_missing.proofs.Edited.{edits_leave}
use Rattle.mk_missing.proofs.worked.edits_leave.Goals as goal

pub returns : goal.returns
returns c = edits_leave
