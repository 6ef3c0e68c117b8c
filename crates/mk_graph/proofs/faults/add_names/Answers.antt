use Rattle.mk_graph.proofs.Rowing.{in_at}
use Rattle.mk_graph.proofs.faults.add_names.Goals as goal

pub name-requires : goal.name-requires
name-requires c = c.requires _ (in_at c.args.numbers.now c.loop-number.number-index c.loop-number-test.true)
