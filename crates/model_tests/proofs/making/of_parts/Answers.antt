use Rattle.std.proofs.Common.{refl, subst}
use Rattle.model_tests.specs.Nodes.{AreFit}
use Rattle.model_tests.proofs.Planned.{fit_before, fit_distinct, fit_edges}
use Rattle.model_tests.proofs.making.of_parts.Goals as goal

pub new-requires-clause-few_edges : goal.new-requires-clause-few_edges
new-requires-clause-few_edges c = fit_edges c.args.nodes.items (subst AreFit c.as_slice.ensures.value (c.if-not-are_fit.ensures refl))

pub new-requires-clause-distinct : goal.new-requires-clause-distinct
new-requires-clause-distinct c = fit_distinct c.args.nodes.items (subst AreFit c.as_slice.ensures.value (c.if-not-are_fit.ensures refl))

pub new-requires-clause-rising : goal.new-requires-clause-rising
new-requires-clause-rising c = fit_before c.args.nodes.items (subst AreFit c.as_slice.ensures.value (c.if-not-are_fit.ensures refl))
