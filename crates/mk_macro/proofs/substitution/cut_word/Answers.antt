use Rattle.std.proofs.Common.{◌∙◌, sym}
use Rattle.mk_text.specs.Lexical.{is_blank}
use Rattle.mk_macro.proofs.Places.{none_passes}
use Rattle.mk_macro.proofs.Weaving.{cut_more}
use Rattle.mk_macro.proofs.substitution.cut_word.Goals as goal

pub returns-in-Some-clause-some : goal.returns-in-Some-clause-some
returns-in-Some-clause-some c = cut_more c.args.text.now c.in-Some.at c.in-Some.ensures.inside (sym c.first_blank.ensures.place ∙ c.in-Some.is)

pub returns-in-None-clause-none : goal.returns-in-None-clause-none
returns-in-None-clause-none c = none_passes is_blank c.args.text.now (sym c.first_blank.ensures.place ∙ c.in-None.is)
