use Rattle.std.proofs.Common.{ℕ, ◌≡◌, ◌<◌, ◌+◌, ◌∙◌, Option, Some, length, get_or, sym, subst, arith}
use Rattle.std.proofs.lemmas.Bool.{both_ways}
use Rattle.mk_index.specs.Meets.{IsMet}
use Rattle.mk_index.proofs.Meeting.{HasMetNone, met_none, met_more, not_met, not_there, met_itself, met_above, there_at}
use Rattle.mk_index.proofs.meets.first_met.Goals as goal
use Rattle.mk_index.proofs.meets.first_met.Goals.{else-at-theirs-via-then-at-theirs+else-theirs-at, else-at-theirs-via-else-at-theirs, in-Some+else-is_met, in_default}

pub loop-i-init : goal.loop-i-init
loop-i-init c = met_none c.args.ups.now c.args.mine.now c.args.theirs.now

pub loop-i-preserved : goal.loop-i-preserved
loop-i-preserved c =
    let ups = c.args.ups.now in
    let mine = c.args.mine.now in
    let theirs = c.args.theirs.now in
    let i = c.loop-i.i in
    let q = get_or mine i 0 in
    let at = c.skip-at.result in
    let other : at < length theirs → get_or theirs at 0 ≡ q → ⊥ = λ inside same. elim c.else-at-theirs.branch [
      | else-at-theirs-via-then-at-theirs+else-theirs-at w ↦ w.if-theirs-at.false same
      | else-at-theirs-via-else-at-theirs w ↦ absurd (omega (arith, inside, w.if-at-theirs.false))
    ] in
    let nothing : (u : ℕ) → c.above.result ≡ Some u → IsMet ups theirs u → ⊥ = λ u is met. elim c.match-above.branch [
      | in-Some+else-is_met w ↦
          let one : Some u ≡ Some w.in-Some.u = sym is ∙ w.in-Some.is in
          let same : u ≡ w.in-Some.u = cc in
          both_ways _ w.if-is_met.false (w.is_met.ensures.1 (subst (λ n. IsMet ups theirs n) same met))
      | in_default w ↦ w.in_default.not-Some u is
    ] in
    let last : c.match-above.last ≡ Some q = elim c.match-above.branch [ in-Some+else-is_met w ↦ w.last-is | in_default w ↦ w.last-is ] in
    let apart = not_met ups theirs q c.above.result c.above.ensures.some c.above.ensures.none
    (not_there theirs c.requires.rise at q c.skip-at.ensures.below c.skip-at.ensures.first other) nothing in
    subst (λ (o : Option ℕ). HasMetNone ups mine theirs at o (i + 1)) (sym last)
    (met_more ups mine theirs c.loop-i.at at c.loop-i.last i c.requires.mine.rise c.loop-i.invariant c.skip-at.ensures.within c.skip-at.ensures.below apart)

pub returns-then-theirs-at-clause-met : goal.returns-then-theirs-at-clause-met
returns-then-theirs-at-clause-met c =
    met_itself c.args.ups.now c.args.theirs.now (get_or c.args.mine.now c.loop-i.i 0) (there_at c.args.theirs.now c.skip-at.result _ c.if-at-theirs.true c.if-theirs-at.true)

pub returns-then-is_met-clause-met : goal.returns-then-is_met-clause-met
returns-then-is_met-clause-met c =
    met_above c.args.ups.now c.args.theirs.now (get_or c.args.mine.now c.loop-i.i 0) c.in-Some.u c.in-Some.ensures.some (c.is_met.ensures.0 c.if-is_met.true)
