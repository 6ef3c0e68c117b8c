use Rattle.std.proofs.Common.{◌∙◌, sym, ◌==◌}
use Rattle.mk_macro.proofs.Places.{none_passes, one_passes}
use Rattle.mk_macro.proofs.item.split_at_byte.Goals as goal

pub returns-in_err-at-clause-none : goal.returns-in_err-at-clause-none
returns-in_err-at-clause-none c =
    let none = none_passes (λ b. b == c.args.byte) c.args.text.now (sym c.place_of.ensures.place ∙ c.in_err-at.was) in
    rw c.from_residual.ensures none

pub returns-clause-some : goal.returns-clause-some
returns-clause-some c = one_passes (λ b. b == c.args.byte) c.args.text.now c.in_ok-at.at (sym c.place_of.ensures.place ∙ c.in_ok-at.was)
