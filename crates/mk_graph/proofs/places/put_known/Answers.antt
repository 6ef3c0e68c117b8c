use Rattle.std.proofs.Common.{sym, arith}
use Rattle.std.proofs.lemmas.Grind.{common_steps}
use Rattle.mk_graph.proofs.Tables.{known_keys, known_places}
use Rattle.mk_graph.proofs.places.put_known.Goals as goal

pub returns : goal.returns
returns c = record {
  keys = known_keys c.args.table.now c.remove.new.self c.insert-2.new.self c.args.name c.in-Some.places c.insert.new.self c.args.place (sym c.in-Some.ensures.value) c.remove.ensures.updates.0 c.in_ok-insert-2.ensures.updates.0;
  places =
      known_places c.args.table.now c.remove.new.self c.insert-2.new.self c.args.name c.in-Some.places c.insert.new.self c.args.place (sym c.in-Some.ensures.value) c.remove.ensures.updates.0 c.in_ok-insert-2.ensures.updates.0
      (λ p. grind (arith, common_steps, c.in_ok-insert.ensures.updates.0 p));
}
