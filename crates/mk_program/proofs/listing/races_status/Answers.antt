use Rattle.std.proofs.Common.{◌∙◌, sym}
use Rattle.mk_program.proofs.RaceLists.{races_done, races_no}
use Rattle.mk_program.proofs.listing.races_status.Goals as goal

pub returns-then-is_empty-clause-status : goal.returns-then-is_empty-clause-status
returns-then-is_empty-clause-status c = races_done c.args.races.now (sym c.is_empty.ensures ∙ c.if-is_empty.true)

pub returns-clause-status : goal.returns-clause-status
returns-clause-status c = races_no c.args.races.now (sym c.is_empty.ensures ∙ c.if-is_empty.false)
