use Rattle.std.proofs.Common.{rules, map, fold, ap, ◌∙◌, eqb}
use Rattle.std.proofs.lemmas.Iterator.Consumers.{YieldsList-end}
use Rattle.std.proofs.lemmas.Iterator.Splits.{YieldsList-from_slice_split}
use Rattle.mk_text.specs.Spelling.{one_more}
use Rattle.mk_text.proofs.components.add_path.Goals as goal

pub returns : goal.returns
returns c =
    let all = YieldsList-end (YieldsList-from_slice_split _ (λ b. eqb b 47) c.args.path.now (search rules) (search rules) (search rules) (λ x b q k. search rules)) c.loop-part.yielded _ c.loop-part.yielded_by _ _ c.in-None.is c.next.ensures.steps in
    c.loop-part.invariant ∙ ap (fold one_more (map (λ x. x.now) c.args.parts.now.items)) all.0
