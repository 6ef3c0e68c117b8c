use Rattle.std.proofs.Common.{◌≡◌, ℕ, ◌∙◌, sym, ap, arith}
use Rattle.std.proofs.lemmas.Grind.{common_steps}
use Rattle.std.specs.List.{list_any}
use Rattle.std.specs.BTreeMap.{is_at}
use Rattle.std.specs.Ordering.{nat_cmp}
use Rattle.mk_graph.specs.Numbers.{in_set}
use Rattle.mk_graph.specs.Places.{stands_beside}
use Rattle.mk_graph.proofs.Tables.{none_beside, put_is, set_beside}
use Rattle.mk_graph.proofs.places.put_beside.Goals as goal
use Rattle.mk_graph.proofs.places.put_beside.Goals.{in-Some, in-None}

pub returns : goal.returns
returns c =
    let was : (p : ℕ) → in_set c.match-remove.places p ≡ stands_beside c.args.table.now c.args.name p =
    (λ p. elim c.match-remove.branch [
      | in-Some w ↦ ap (λ s. in_set s p) w.places-is ∙ sym (set_beside c.args.table.now c.args.name w.in-Some.places p (sym c.remove.ensures.value ∙ w.in-Some.is))
      | in-None w ↦ ap (λ s. in_set s p) w.places-is ∙ ap (λ ks. list_any (is_at (nat_cmp p)) ks) w.new-places.ensures.empty ∙ sym (none_beside c.args.table.now c.args.name p (sym c.remove.ensures.value ∙ w.in-None.is))
    ]) in
    put_is c.args.table.now c.remove.new.self c.insert-2.new.self c.args.name c.match-remove.places c.insert.new.self c.args.place
    c.remove.ensures.updates.0 c.in_ok-insert-2.ensures.updates.0 was (λ p. grind (arith, common_steps, c.in_ok-insert.ensures.updates.0 p))
