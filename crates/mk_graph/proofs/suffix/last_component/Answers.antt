use Rattle.std.proofs.Common.{◌∙◌, ap, ◌+◌, drop, add-one}
use Rattle.std.proofs.lemmas.List.{take_rest}
use Rattle.mk_graph.proofs.Suffixes.{component_none, component_at}
use Rattle.mk_graph.proofs.suffix.last_component.Goals as goal

pub returns-in-Some : goal.returns-in-Some
returns-in-Some c =
    take_rest c.args.name.now (c.in-Some.slash + 1) ∙ ap (λ k. drop k c.args.name.now) (add-one c.in-Some.slash)
    ∙ component_at c.args.name.now c.in-Some.slash c.in-Some.ensures.0 c.in-Some.ensures.1

pub returns-in-None : goal.returns-in-None
returns-in-None c = component_none c.args.name.now c.in-None.ensures
