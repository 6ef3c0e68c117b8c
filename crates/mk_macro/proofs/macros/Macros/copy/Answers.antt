use Rattle.std.proofs.lemmas.List.Elements.{same_from_all_zip}
use Rattle.mk_macro.proofs.Table.{copied}
use Rattle.mk_macro.proofs.macros.Macros.copy.Goals as goal

pub returns : goal.returns
returns c = copied _ _ (λ x y h. same_from_all_zip _ x.items y.items h.0 (λ a b same. same)) (λ d e h. h) c.self.inside.table c.in_ok-clone.field-0 c.args.self.now c.in_ok-clone.ensures.cases c.self.view_is
