use Rattle.std.proofs.Common.{ℕ, ◌≤◌, ◌⊎◌, ◌∙◌, All, Contains, List, get_or, inl, inr, length, refl, subst, sym}
use Rattle.std.proofs.lemmas.Bool.{false≢true}
use Rattle.mk_jobs.specs.Jobs.{IsPrerequisite, prerequisites_of}
use Rattle.mk_fix.proofs.Remade.{all_more, items_all}
use Rattle.mk_fix.proofs.again.has_no_others.Goals as goal
use Rattle.mk_fix.proofs.again.has_no_others.Goals.{else-not-is_prerequisite-via-then-not-is_prerequisite+else-not-has_edge, else-not-is_prerequisite-via-else-not-is_prerequisite}

pub returns-then-not-has_edge : goal.returns-then-not-has_edge
returns-then-not-has_edge c = (
  λ is. absurd (false≢true is),
  λ all.
      let all' = subst (All (λ p. IsPrerequisite c.args.jobs.now p c.args.n ⊎ Contains c.args.edges.now (p, c.args.n))) (sym c.prerequisites-p-items.ensures) all in
      elim (all' c.loop-p.p-index 0 c.loop-p-test.true) [
        | inl was ↦ absurd (false≢true (sym c.if-not-is_prerequisite.true ∙ c.is_prerequisite.ensures.1 was))
        | inr added ↦ absurd (false≢true (sym c.if-not-has_edge.true ∙ c.has_edge.ensures.1 added))
      ],
)

pub loop-p-preserved : goal.loop-p-preserved
loop-p-preserved c =
    let ps = c.prerequisites-p-items.result.now in
    let p = get_or ps c.loop-p.p-index 0 in
    let here : IsPrerequisite c.args.jobs.now p c.args.n ⊎ Contains c.args.edges.now (p, c.args.n) = elim c.else-not-is_prerequisite.branch [
      | else-not-is_prerequisite-via-then-not-is_prerequisite+else-not-has_edge w ↦ inr (w.has_edge.ensures.0 w.if-not-has_edge.false)
      | else-not-is_prerequisite-via-else-not-is_prerequisite w ↦ inl (c.is_prerequisite.ensures.0 w.if-not-is_prerequisite.false)
    ] in
    all_more (λ k. IsPrerequisite c.args.jobs.now (get_or (prerequisites_of c.args.new.now c.args.n) k 0) c.args.n ⊎ Contains c.args.edges.now (get_or (prerequisites_of c.args.new.now c.args.n) k 0, c.args.n))
    c.loop-p.p-index c.loop-p.invariant
    (subst (λ (qs : List ℕ). IsPrerequisite c.args.jobs.now (get_or qs c.loop-p.p-index 0) c.args.n ⊎ Contains c.args.edges.now (get_or qs c.loop-p.p-index 0, c.args.n)) c.prerequisites-p-items.ensures here)

pub returns : goal.returns
returns c = (
  λ is. items_all (λ (p : ℕ). IsPrerequisite c.args.jobs.now p c.args.n ⊎ Contains c.args.edges.now (p, c.args.n)) (prerequisites_of c.args.new.now c.args.n) 0 c.loop-p.p-index
      (subst (λ (ps : List ℕ). length ps ≤ c.loop-p.p-index) c.prerequisites-p-items.ensures c.loop-p-test.false) c.loop-p.invariant,
  λ all. refl,
)
