use Rattle.std.proofs.Common.{◌≡◌, ◌∙◌, ℕ, Bool, false, IfOk, get_or, length, subst, sym}
use Rattle.std.specs.Prelude.{find}
use Rattle.mk_due.specs.Awaited.{is_early}
use Rattle.mk_due.specs.Items.{nodes_of}
use Rattle.mk_due.proofs.Awaiting.{none_behind}
use Rattle.mk_due.proofs.early.early_behind.Goals as goal

pub returns-then-not-has_early : goal.returns-then-not-has_early
returns-then-not-has_early c =
    let items = c.args.items.now in
    none_behind (nodes_of items) (length items) (λ n. get_or c.args.marks.now n false) c.args.needs.now (sym c.has_early.ensures ∙ c.if-not-has_early.true)

pub returns : goal.returns
returns c =
    let items = c.args.items.now in
    subst (λ (t : ℕ → Bool). IfOk c.early_of.result (λ found. found ≡ find (is_early (nodes_of items) t) c.args.needs.now)) (λ i n. c.mark_behind.ensures n i)
    c.early_of.ensures
