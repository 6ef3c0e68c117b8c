use Rattle.std.proofs.Common.{rules, eqb}
use Rattle.std.proofs.lemmas.Iterator.Search.{all_from_yields_List}
use Rattle.std.proofs.lemmas.Iterator.Splits.{YieldsList-from_slice_split}
use Rattle.mk_text.specs.Spelling.{is_plain}
use Rattle.mk_text.proofs.components.is_plain_path.Goals as goal

pub returns : goal.returns
returns c =
    all_from_yields_List is_plain _ _ c.all.result c.all.ensures.ran (YieldsList-from_slice_split _ (λ b. eqb b 47) c.args.path.now (search rules) (search rules) (search rules) (λ x b q k. search rules)) (λ x b q k. search rules)
