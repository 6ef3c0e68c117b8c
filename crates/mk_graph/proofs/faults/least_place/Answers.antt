use Rattle.std.proofs.Common.{ℕ, subst, sym, ◌∙◌, ◌+◌, arith}
use Rattle.mk_graph.specs.Least.{IsLeastPlace}
use Rattle.mk_graph.proofs.Rowing.{in_at}
use Rattle.mk_graph.proofs.Leasts.{place_first, place_keep, place_take}
use Rattle.mk_graph.proofs.faults.least_place.Goals as goal
use Rattle.mk_graph.proofs.faults.least_place.Goals.{then-not-is_upto, else-not-is_upto}

pub loop-place-init : goal.loop-place-init
loop-place-init c = place_first c.args.names.now c.args.ring.now

pub is_upto-requires-clause-first : goal.is_upto-requires-clause-first
is_upto-requires-clause-first c = c.requires.within _ (in_at c.args.ring.now c.loop-place.least (omega (arith, c.loop-place.invariant.0)))

pub is_upto-requires-clause-second : goal.is_upto-requires-clause-second
is_upto-requires-clause-second c = c.requires.within _ (in_at c.args.ring.now c.loop-place.place (omega arith))

pub loop-place-preserved : goal.loop-place-preserved
loop-place-preserved c =
    elim c.if-not-is_upto.branch [
      | then-not-is_upto w ↦ subst (λ (b : ℕ). IsLeastPlace c.args.names.now c.args.ring.now (c.loop-place.place + 1) b) (sym w.least-is) (place_take c.args.names.now c.args.ring.now c.loop-place.place c.loop-place.least (sym c.is_upto.ensures ∙ w.if-not-is_upto.true) c.loop-place.invariant)
      | else-not-is_upto w ↦ subst (λ (b : ℕ). IsLeastPlace c.args.names.now c.args.ring.now (c.loop-place.place + 1) b) (sym w.least-is) (place_keep c.args.names.now c.args.ring.now c.loop-place.place c.loop-place.least (sym c.is_upto.ensures ∙ w.if-not-is_upto.false) c.loop-place.invariant)
    ]
