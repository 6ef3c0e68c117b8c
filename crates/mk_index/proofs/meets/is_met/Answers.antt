use Rattle.std.proofs.Common.{ℕ, Option, false, refl, ◌∙◌, sym, subst}
use Rattle.std.proofs.lemmas.Bool.{both_ways}
use Rattle.mk_index.proofs.Ascents.{up_itself, up_of_some}
use Rattle.mk_index.proofs.Meeting.{HasPassed, passed_none, passed_more, passed_seen, seen_is}
use Rattle.mk_index.proofs.meets.is_met.Goals as goal

pub loop-next-init : goal.loop-next-init
loop-next-init c = record {
  passed = passed_none c.args.ups.now c.args.theirs.now c.args.first;
  within = c.requires.first;
  seen = up_itself c.args.ups.now c.args.last;
  seen_within = c.requires.last;
}

pub loop-next-preserved : goal.loop-next-preserved
loop-next-preserved c =
    let ups = c.args.ups.now in
    let theirs = c.args.theirs.now in
    record {
      passed = passed_more ups theirs c.args.first c.in-Some.t c.above-next.result
          (subst (λ (o : Option ℕ). HasPassed ups theirs c.args.first o) c.in-Some.is c.loop-next.invariant.passed)
          (λ there. both_ways _ c.if-is_one.false (c.is_one.ensures.1 there)) c.above-next.ensures.some c.above-next.ensures.none;
      within = c.above-next.ensures.within;
      seen = up_of_some ups c.rise-seen.result c.loop-next.seen c.args.last c.rise-seen.ensures.up c.loop-next.invariant.seen;
      seen_within = c.rise-seen.ensures.within;
    }

pub returns-then-eq : goal.returns-then-eq
returns-then-eq c =
    let ups = c.args.ups.now in
    let theirs = c.args.theirs.now in
    let seen = seen_is ups c.rise-seen.result c.args.last c.in-Some.t (sym c.eq.ensures ∙ c.if-eq.true)
    (up_of_some ups c.rise-seen.result c.loop-next.seen c.args.last c.rise-seen.ensures.up c.loop-next.invariant.seen) in (
      λ yes. absurd (both_ways false refl yes),
      λ met. absurd (passed_seen ups theirs c.args.first c.in-Some.t c.args.last
          (subst (λ (o : Option ℕ). HasPassed ups theirs c.args.first o) c.in-Some.is c.loop-next.invariant.passed) seen c.requires.none met),
    )
