use Rattle.std.proofs.Common.{◌==◌}
use Rattle.mk_macro.proofs.Places.{found_inside, place_found}
use Rattle.mk_macro.proofs.item.place_of.Goals as goal

pub returns-clause-place : goal.returns-clause-place
returns-clause-place c = place_found (λ b. b == c.args.byte) c.args.text.now c.memchr.result c.memchr.ensures

pub returns-clause-inside : goal.returns-clause-inside
returns-clause-inside c = found_inside (λ b. b == c.args.byte) c.args.text.now c.memchr.result c.memchr.ensures
