use Rattle.std.proofs.Common.{◌∙◌, ap, subst, length, arith, List, ℕ, nat_eq, [], Option}
use Rattle.std.specs.Prelude.{Vec}
use Rattle.std.specs.Global.{Global}
use Rattle.mk_name.specs.Names.{kept}
use Rattle.mk_graph.specs.Seen.{AllBelow}
use Rattle.mk_graph.proofs.Steps.{In}
use Rattle.mk_graph.proofs.Rowing.{firsts_within}
use Rattle.mk_graph.proofs.rows.distinct.Goals as goal

pub unmark-requires-clause-within : goal.unmark-requires-clause-within
unmark-requires-clause-within c = λ n h.
    let below = subst (λ (o : Option (Vec ℕ Global)). AllBelow (length c.args.seen.now) o) c.in-Some.is c.requires.within in
    let row = c.as_slice-in-Some.ensures.value ∙ c.in_ok-add_new-in-Some.ensures.row ∙ ap (λ xs. kept nat_eq xs c.as_slice.result.now) c.new-row.ensures.items ∙ ap (kept nat_eq []) c.as_slice.ensures.value in
    let w = firsts_within c.in-Some.numbers.items (length c.args.seen.now) below n (subst (λ (xs : List ℕ). In xs n) row h) in
    omega (arith, w, c.add_new.auto.seen)
