use Rattle.std.proofs.Common.{sym, subst, inl, inr}
use Rattle.mk_decide.specs.Neighbours.{IsNeighbour}
use Rattle.mk_decide.proofs.Sweeping.{alone_is, swept_more}
use Rattle.mk_decide.proofs.neighbours.sweep.Goals as goal

pub returns-clause-swept : goal.returns-clause-swept
returns-clause-swept c =
    swept_more c.args.jobs.now c.args.table.now c.merge_row.new.table c.leading_on-between.result c.args.a c.requires.swept c.leading_on-between.ensures c.merge_row.ensures

pub returns-clause-pairs : goal.returns-clause-pairs
returns-clause-pairs c = λ x y.
    let put = c.in_ok-push_alone.ensures x y in
    let near = alone_is c.args.jobs.now c.args.table.now c.merge_row.new.table c.leading_on-between.result c.args.a c.requires.swept c.leading_on-between.ensures c.merge_row.ensures y in (
      λ there. elim (put.0 there) [
        | inl before ↦ inl before
        | inr new ↦ inr (new.0, subst (λ k. IsNeighbour c.args.jobs.now k y) (sym new.0) (near.0 ((c.table_row.ensures.bits y).0 new.1, new.2)))
      ],
      λ has. put.1 (elim has [
        | inl before ↦ inl before
        | inr new ↦ let parts = near.1 (subst (λ k. IsNeighbour c.args.jobs.now k y) new.0 new.1) in inr (new.0, (c.table_row.ensures.bits y).1 parts.0, parts.1)
      ]),
    )
