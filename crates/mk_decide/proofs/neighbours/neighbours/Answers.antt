use Rattle.std.proofs.Common.{◌≡◌, ◌∙◌, ◌++◌, ap, arith, drop, length, subst, sym, take}
use Rattle.std.proofs.lemmas.List.{take_at}
use Rattle.mk_decide.specs.Swept.{AreClashes}
use Rattle.mk_decide.proofs.neighbours.neighbours.Goals as goal

pub sweep_all-requires-clause-clashes : goal.sweep_all-requires-clause-clashes
sweep_all-requires-clause-clashes c =
    let new = c.fill_clashes.new.table in
    let old = c.in_ok-table.table.items in
    let same : length new ≡ length old = omega (arith, c.fill_clashes.auto.table, ap length c.deref_mut.ensures.value) in
    let whole : take c.in_ok-table.table.len (new ++ drop (length new) old) ≡ new = take_at new (drop (length new) old) c.in_ok-table.table.len (omega (arith, same, c.in_ok-table.table.ok.0)) in
    subst (AreClashes c.args.jobs.now) (sym (c.deref_mut-2.ensures.value ∙ whole)) c.fill_clashes.ensures
