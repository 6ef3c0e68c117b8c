use Rattle.std.proofs.Common.{refl, arith}
use Rattle.mk_decide.proofs.Marked.{marks_reach}
use Rattle.mk_decide.proofs.marks.row_of.Goals as goal

pub mark_reaching-requires-clause-room : goal.mark_reaching-requires-clause-room
mark_reaching-requires-clause-room c = omega (arith, c.requires.shape.few)

pub returns : goal.returns
returns c = marks_reach 313 _ c.mark_reaching.new.row refl c.mark_reaching.ensures
