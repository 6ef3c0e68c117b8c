use Rattle.std.proofs.Common.{ap, ◌∙◌}
use Rattle.mk_foot.specs.Footprints.{Footprints, footprint_at}
use Rattle.mk_foot.proofs.Uniting.{others_stay}
use Rattle.mk_foot.proofs.footprints.Footprints.take.Goals as goal

pub returns-clause-others : goal.returns-clause-others
returns-clause-others c = (
  ap (λ (f : Footprints). f.root) c.self.view_is,
  λ other apart.
      others_stay c.self.inside.by_target.entries c.remove.new.self.entries c.args.target.now c.remove.ensures.updates.0 other apart
      ∙ ap (λ (f : Footprints). footprint_at f other) c.self.view_is,
)
