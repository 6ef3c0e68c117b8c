use Rattle.std.proofs.Common.{map, ap}
use Rattle.mk_path.proofs.Numbering.{behind}
use Rattle.mk_index.proofs.Uniting.{united_start}
use Rattle.mk_index.proofs.gather.unite.Goals as goal

pub put_all-requires-clause-united : goal.put_all-requires-clause-united
put_all-requires-clause-united c =
    united_start (map behind c.args.first.now) (map behind c.args.second.now) _ _ _ (ap (map behind) c.in_ok-with_capacity.ensures.items) c.in_ok-with_capacity-2.ensures.items c.in_ok-with_capacity-3.ensures.items
