use Rattle.std.proofs.Common.{◌≡◌, ◌∙◌, Bool, false, IfOk, List, Option, ap, get_or, subst}
use Rattle.mk_name.specs.Names.{Name}
use Rattle.mk_due.proofs.Awaiting.{same_early}
use Rattle.mk_due.proofs.early.first_early.Goals as goal

pub returns : goal.returns
returns c =
    subst (λ (o : Option Name). IfOk c.early_behind.result (λ found. found ≡ o))
    (same_early c.args.items.now c.deref_mut.result.now c.args.waits.now c.args.needs.now
    (λ n. ap (λ (ms : List Bool). get_or ms n false) c.deref_mut.ensures.value ∙ c.in_ok-marks.ensures.marks n))
    c.early_behind.ensures
