use Rattle.std.proofs.Common.{ℕ, ◌≡◌, ◌<◌, ◌∙◌, get_or, refl, sym, subst, inl, inr, arith}
use Rattle.std.proofs.lemmas.Bool.{both_ways, cases_lt}
use Rattle.mk_jobs.specs.Jobs.{Jobs, node_count}
use Rattle.mk_decide.specs.Paths.{IsFrom}
use Rattle.mk_decide.proofs.chains.first_from.Goals as goal

pub is_from-requires-clause-first : goal.is_from-requires-clause-first
is_from-requires-clause-first g c = subst (λ (jobs : Jobs). c.args.a < node_count jobs) (sym c.loop-p.invariant.1) c.requires.first

pub is_from-requires-clause-second : goal.is_from-requires-clause-second
is_from-requires-clause-second g c =
    subst (λ (jobs : Jobs). get_or c.args.nodes.now c.loop-p.p-index 0 < node_count jobs) (sym c.loop-p.invariant.1) (c.requires.all c.loop-p.p-index 0 c.loop-p-test.true)

pub loop-p-preserved : goal.loop-p-preserved
loop-p-preserved g c =
    let nodes = c.args.nodes.now in
    let i = c.loop-p.p-index in
    let same = c.loop-p.invariant.1 in (
      λ k below from. elim (cases_lt k i) [
        | inl before ↦ c.loop-p.invariant.0 k before from
        | inr after ↦
            let is : k ≡ i = omega (arith, below, after) in
            let here = subst (λ (m : ℕ). IsFrom (g.B.Before.jobs c.args.before.now) c.args.a (get_or nodes m 0)) is from in
            both_ways c.is_from.result c.if-is_from.false (c.is_from.ensures.exact.1 (subst (λ (jobs : Jobs). IsFrom jobs c.args.a (get_or nodes i 0)) (sym same) here))
      ],
      c.is_from.ensures.keeps ∙ same,
    )

pub returns-then-is_from-clause-some : goal.returns-then-is_from-clause-some
returns-then-is_from-clause-some g c = record {
  place = c.loop-p.p-index;
  there = c.loop-p-test.true;
  is = refl;
  from = subst (λ (jobs : Jobs). IsFrom jobs c.args.a (get_or c.args.nodes.now c.loop-p.p-index 0)) c.loop-p.invariant.1 (c.is_from.ensures.exact.0 c.if-is_from.true);
  first = c.loop-p.invariant.0;
}

pub returns-then-is_from-clause-keeps : goal.returns-then-is_from-clause-keeps
returns-then-is_from-clause-keeps g c = c.is_from.ensures.keeps ∙ c.loop-p.invariant.1

pub returns-clause-none : goal.returns-clause-none
returns-clause-none g c = λ k below from. c.loop-p.invariant.0 k (omega (arith, below, c.loop-p-test.false)) from
