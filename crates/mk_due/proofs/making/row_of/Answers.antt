use Rattle.std.proofs.Common.{◌≡◌, false, ap, sym, subst}
use Rattle.mk_jobs.specs.Recipes.{is_live_node}
use Rattle.mk_jobs.specs.Shape.{IsRising}
use Rattle.mk_foot.proofs.AttachNodes.{rising_nil}
use Rattle.mk_due.specs.Items.{DueItem}
use Rattle.mk_due.proofs.Taken.{item_idle}
use Rattle.mk_due.proofs.making.row_of.Goals as goal

pub returns-then-not-is_live-clause-none : goal.returns-then-not-is_live-clause-none
returns-then-not-is_live-clause-none c =
    let view = ap (λ (i : DueItem). is_live_node i.node) c.item.view_is in
    let idle : is_live_node c.args.item.node ≡ false = cc in
    (item_idle c.args.root.now _ c.args.item idle).fault

pub returns-then-not-is_live-clause-rising : goal.returns-then-not-is_live-clause-rising
returns-then-not-is_live-clause-rising c =
    (subst IsRising (sym c.new.ensures.items) rising_nil, subst IsRising (sym c.new-then-not-is_live.ensures.items) rising_nil)
