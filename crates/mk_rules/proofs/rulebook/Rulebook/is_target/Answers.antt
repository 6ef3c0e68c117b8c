use Rattle.std.proofs.Common.{◌∙◌, ap}
use Rattle.mk_rules.specs.Book.{is_target}
use Rattle.mk_rules.proofs.Indexes.{found-is_target}
use Rattle.mk_rules.proofs.rulebook.Rulebook.is_target.Goals as goal

pub returns : goal.returns
returns c =
    c.contains.ensures
    ∙ found-is_target c.self.inside.rules.items _ c.args.name.now c.self.invariant.index.order
    ∙ ap (λ entries. is_target entries c.args.name.now) (ap (λ b. b.rules) c.self.view_is)
