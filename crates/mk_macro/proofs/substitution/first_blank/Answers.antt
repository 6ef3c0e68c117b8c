use Rattle.mk_text.specs.Lexical.{is_blank}
use Rattle.mk_macro.proofs.Places.{found_inside, place_found}
use Rattle.mk_macro.proofs.substitution.first_blank.Goals as goal

pub returns-clause-place : goal.returns-clause-place
returns-clause-place c = place_found is_blank c.args.text.now c.memchr2.result c.memchr2.ensures

pub returns-clause-inside : goal.returns-clause-inside
returns-clause-inside c = found_inside is_blank c.args.text.now c.memchr2.result c.memchr2.ensures
