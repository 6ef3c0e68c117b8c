use Rattle.std.proofs.lemmas.List.Elements.{All-set}
use Rattle.mk_log.specs.Nodes.{IsSo}
use Rattle.mk_log.proofs.nodes.keep.Goals as goal

pub returns-then-slot-slots : goal.returns-then-slot-slots
returns-then-slot-slots c build kept so = All-set (IsSo build) c.args.slots.now c.args.slot c.args.spelled so kept
