use Rattle.std.proofs.Common.{◌≡◌, ◌≤◌, ◌∙◌, true, false, ap, length, sym, subst, take, arith}
use Rattle.std.specs.Prelude.{nat_lt}
use Rattle.std.specs.List.{list_all, list_any}
use Rattle.std.proofs.lemmas.Bool.{leb-true, not-true}
use Rattle.std.proofs.lemmas.List.{get_or_default}
use Rattle.mk_name.specs.Names.{same_name}
use Rattle.mk_jobs.specs.Plan.{Node, nobody}
use Rattle.model_tests.proofs.Planned.{fits_from}
use Rattle.model_tests.proofs.nodes.fits_behind.Goals as goal
use Rattle.model_tests.proofs.nodes.fits_behind.Goals.{then-len-le-MOST_NEEDS, else-len-le-MOST_NEEDS}

pub returns-then-are_below : goal.returns-then-are_below
returns-then-are_below c = λ is. elim c.if-len-le-MOST_NEEDS.branch [
  | then-len-le-MOST_NEEDS w ↦
      fits_from c.args.nodes.now c.args.place c.index-nodes-place.result
      (c.index-nodes-place.is ∙ get_or_default c.args.nodes.now c.args.place c.index-nodes-place.result nobody c.requires)
      (subst (λ (d : Node). length d.prerequisites ≤ 10) c.node.view_is (omega (arith, w.if-len-le-MOST_NEEDS.true, c.len.ensures)))
      (subst (λ (d : Node). list_all (λ p. nat_lt p c.args.place) d.prerequisites ≡ true) c.node.view_is
      (ap (list_all (λ p. nat_lt p c.args.place)) (sym w.as_slice.ensures.value) ∙ sym w.are_below.ensures ∙ sym w.value-is ∙ c.if-are_below.true))
      (subst (λ (d : Node). list_any (λ (e : Node). same_name e.name d.name) (take c.args.place c.args.nodes.now) ≡ false) c.node.view_is (sym c.is_named.ensures ∙ not-true _ is))
  | else-len-le-MOST_NEEDS w ↦ let few = leb-true _ _ (sym w.value-is ∙ c.if-are_below.true) in absurd (omega (arith, few, w.if-len-le-MOST_NEEDS.false))
]
