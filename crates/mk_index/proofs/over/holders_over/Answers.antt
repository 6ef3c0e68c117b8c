use Rattle.std.proofs.Common.{ℕ, ◌++◌, List, Option, Some, ap, sym, subst, ◌∙◌}
use Rattle.mk_index.proofs.Gaining.{HasGained, gained_more, gained_none}
use Rattle.mk_index.proofs.over.holders_over.Goals as goal

pub loop-next-init : goal.loop-next-init
loop-next-init c = record {
  gained = subst (HasGained c.args.ups.now c.args.holders.now c.args.first (Some c.args.first)) (sym c.new-nodes.ensures.items) (gained_none c.args.ups.now c.args.holders.now c.args.first);
  within = c.requires.first;
}

pub loop-next-preserved : goal.loop-next-preserved
loop-next-preserved c =
    let ups = c.args.ups.now in
    let holders = c.args.holders.now in
    let old = c.loop-next.nodes.items in
    record {
      gained = gained_more ups holders c.args.first c.in-Some.t c.above-next.result old c.extend_from_slice.new.self.items
          (subst (λ (o : Option ℕ). HasGained ups holders c.args.first o old) c.in-Some.is c.loop-next.invariant.gained)
          (c.in_ok-extend_from_slice.ensures.items ∙ ap (λ (row : List ℕ). old ++ row) c.row.ensures) c.above-next.ensures.some c.above-next.ensures.none;
      within = c.above-next.ensures.within;
    }
