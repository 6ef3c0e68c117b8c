use Rattle.std.proofs.Common.{ℕ, ◌≤◌, ◌∙◌, All, List, get_or, length, refl, subst, sym}
use Rattle.std.proofs.lemmas.Bool.{false≢true}
use Rattle.mk_jobs.specs.Jobs.{IsPrerequisite, prerequisites_of}
use Rattle.mk_fix.proofs.Remade.{all_more, items_all}
use Rattle.mk_fix.proofs.again.keeps_needs.Goals as goal

pub returns-then-not-is_prerequisite : goal.returns-then-not-is_prerequisite
returns-then-not-is_prerequisite c = (
  λ is. absurd (false≢true is),
  λ all.
      let all' = subst (All (λ p. IsPrerequisite c.args.new.now p c.args.n)) (sym c.prerequisites-p-items.ensures) all in
      absurd (false≢true (sym c.if-not-is_prerequisite.true ∙ c.is_prerequisite.ensures.1 (all' c.loop-p.p-index 0 c.loop-p-test.true))),
)

pub loop-p-preserved : goal.loop-p-preserved
loop-p-preserved c =
    all_more (λ k. IsPrerequisite c.args.new.now (get_or (prerequisites_of c.args.jobs.now c.args.n) k 0) c.args.n) c.loop-p.p-index c.loop-p.invariant
    (subst (λ (ps : List ℕ). IsPrerequisite c.args.new.now (get_or ps c.loop-p.p-index 0) c.args.n) c.prerequisites-p-items.ensures (c.is_prerequisite.ensures.0 c.if-not-is_prerequisite.false))

pub returns : goal.returns
returns c = (
  λ is. items_all (λ (p : ℕ). IsPrerequisite c.args.new.now p c.args.n) (prerequisites_of c.args.jobs.now c.args.n) 0 c.loop-p.p-index
      (subst (λ (ps : List ℕ). length ps ≤ c.loop-p.p-index) c.prerequisites-p-items.ensures c.loop-p-test.false) c.loop-p.invariant,
  λ all. refl,
)
