use Rattle.std.proofs.Common.{ℕ, ◌∙◌, arith, get_or, refl, sym}
use Rattle.std.proofs.lemmas.Bool.{false≢true}
use Rattle.mk_jobs.specs.Jobs.{IsPrerequisite}
use Rattle.mk_fix.proofs.Remade.{all_more, edge_node, items_all}
use Rattle.mk_fix.proofs.again.has_edges.Goals as goal
use Rattle.mk_fix.proofs.again.has_edges.Goals.{then-n-count-via-then-n-count, then-n-count-via-else-n-count+then-not-is_prerequisite}

pub returns-then-n-count : goal.returns-then-n-count
returns-then-n-count c = (
  λ is. absurd (false≢true is),
  λ all.
      let edge = get_or c.args.edges.now c.loop-p.p-index (0, 0) in
      let there = all c.loop-p.p-index (0, 0) c.loop-p-test.true in
      elim c.then-n-count.branch [
        | then-n-count-via-then-n-count w ↦
            absurd (let node = edge_node c.args.new.now edge.0 edge.1 there in let past = w.if-n-count.true in let count = c.count-count.ensures.count in omega (arith, node, past, count))
        | then-n-count-via-else-n-count+then-not-is_prerequisite w ↦ absurd (false≢true (sym w.if-not-is_prerequisite.true ∙ w.is_prerequisite.ensures.1 there))
      ],
)

pub loop-p-preserved : goal.loop-p-preserved
loop-p-preserved c =
    all_more (λ k. IsPrerequisite c.args.new.now (get_or c.args.edges.now k (0, 0)).0 (get_or c.args.edges.now k (0, 0)).1) c.loop-p.p-index c.loop-p.invariant
    (c.is_prerequisite.ensures.0 c.if-not-is_prerequisite.false)

pub returns : goal.returns
returns c = (
  λ is. items_all (λ (edge : ℕ × ℕ). IsPrerequisite c.args.new.now edge.0 edge.1) c.args.edges.now (0, 0) c.loop-p.p-index c.loop-p-test.false c.loop-p.invariant,
  λ all. refl,
)
