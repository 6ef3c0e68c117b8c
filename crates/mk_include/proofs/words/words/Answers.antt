use Rattle.std.proofs.Common.{rules, ◌==◌, length, not}
use Rattle.std.proofs.lemmas.Iterator.Consumers.{YieldsList-from_filter, map_from_collect}
use Rattle.std.proofs.lemmas.Iterator.Splits.{YieldsList-from_slice_split}
use Rattle.mk_text.specs.Lexical.{is_blank}
use Rattle.mk_include.proofs.words.words.Goals as goal

pub returns : goal.returns
returns c =
    map_from_collect _ c.collect.ensures.ran
    (YieldsList-from_filter _ (λ word. not (length word == 0))
    (YieldsList-from_slice_split _ is_blank c.args.text.now (search rules) (search rules) (search rules) (λ x b q k. search rules))
    c.filter.ensures.closure (λ x b q k. search rules))
