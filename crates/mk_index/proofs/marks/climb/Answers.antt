use Rattle.std.proofs.Common.{ℕ, Option, List, ◌∙◌, sym, subst}
use Rattle.mk_index.proofs.Ascents.{up_itself, up_of_some}
use Rattle.mk_index.proofs.Marking.{Gains, HasClimbed, climb_begins, climb_goes, climb_ends, met_is}
use Rattle.mk_index.proofs.marks.climb.Goals as goal

pub loop-next-init : goal.loop-next-init
loop-next-init c = record {
  climbed = climb_begins c.args.ups.now c.args.holders.now c.args.first c.args.last c.args.row.now;
  within = c.requires.first;
  seen = up_itself c.args.ups.now c.args.last;
  seen_within = c.requires.last;
}

pub loop-next-preserved : goal.loop-next-preserved
loop-next-preserved c =
    let ups = c.args.ups.now in
    let holders = c.args.holders.now in
    let old = c.args.row.now in
    record {
      climbed = climb_goes ups holders c.args.first c.in-Some.t c.args.last c.above-next.result old c.loop-next.row c.mark.new.row
          (subst (λ (o : Option ℕ). HasClimbed ups holders c.args.first c.args.last o old c.loop-next.row) c.in-Some.is c.loop-next.invariant.climbed)
          (subst (λ (nodes : List ℕ). Gains nodes c.loop-next.row c.mark.new.row) c.row.ensures c.mark.ensures) c.above-next.ensures.some c.above-next.ensures.none;
      within = c.above-next.ensures.within;
      seen = up_of_some ups c.rise-seen.result c.loop-next.seen c.args.last c.rise-seen.ensures.up c.loop-next.invariant.seen;
      seen_within = c.rise-seen.ensures.within;
    }

pub returns-then-eq-clause-marked : goal.returns-then-eq-clause-marked
returns-then-eq-clause-marked c =
    let ups = c.args.ups.now in
    climb_ends ups c.args.holders.now c.args.first c.args.last c.loop-next.next c.args.row.now c.loop-next.row c.loop-next.invariant.climbed
    (met_is ups c.loop-next.next c.rise-seen.result c.args.last c.in-Some.t c.in-Some.is (sym c.eq.ensures ∙ c.if-eq.true)
    (up_of_some ups c.rise-seen.result c.loop-next.seen c.args.last c.rise-seen.ensures.up c.loop-next.invariant.seen))

pub returns-clause-marked : goal.returns-clause-marked
returns-clause-marked c =
    climb_ends c.args.ups.now c.args.holders.now c.args.first c.args.last c.loop-next.next c.args.row.now c.loop-next.row c.loop-next.invariant.climbed
    (λ t is. absurd (c.in_default.not-Some t is))
