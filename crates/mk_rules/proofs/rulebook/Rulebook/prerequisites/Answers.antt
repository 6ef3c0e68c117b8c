use Rattle.std.proofs.Common.{◌∙◌, ap}
use Rattle.std.proofs.lemmas.List.{take_all}
use Rattle.std.specs.List.{flat_map}
use Rattle.mk_name.specs.Names.{firsts, same_name}
use Rattle.mk_rules.proofs.Indexes.{joined_more, prerequisites_at, flat_map-places_of}
use Rattle.mk_rules.proofs.rulebook.Rulebook.prerequisites.Goals as goal

pub loop-place-preserved : goal.loop-place-preserved
loop-place-preserved c =
    joined_more c.args.self.now.rules c.rules_of-place-items.result.now c.loop-place.place-index _ _ _ c.loop-place-test.true c.loop-place.invariant c.rule_prerequisites.ensures c.in_ok-join.ensures

pub returns-clause-joined : goal.returns-clause-joined
returns-clause-joined c =
    c.in_ok-into_names.ensures
    ∙ c.loop-place.invariant
    ∙ ap (λ places. firsts same_name (flat_map (prerequisites_at c.args.self.now.rules) places)) (take_all _ _ c.loop-place-test.false ∙ c.rules_of-place-items.ensures.places)
    ∙ ap (firsts same_name) (flat_map-places_of c.args.self.now.rules c.args.name.now)
