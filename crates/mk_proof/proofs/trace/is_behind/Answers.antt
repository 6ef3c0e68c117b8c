use Rattle.std.proofs.Common.{arith, refl, sym}
use Rattle.std.proofs.lemmas.Bool.{ltb-true}
use Rattle.mk_proof.proofs.Risen.{number_answer, number_first}
use Rattle.mk_proof.proofs.trace.is_behind.Goals as goal

pub returns-in-Some : goal.returns-in-Some
returns-in-Some c =
    number_answer c.args.times.now c.args.node c.in-Some.field-0.now c.requires (ltb-true 0 _ (sym c.in-Some.ensures.item.0)) c.in-Some.ensures.item.1

pub returns-in-None : goal.returns-in-None
returns-in-None c = (λ is. number_first c.args.times.now c.args.node (omega (arith, c.in-None.ensures.item.3)), λ sorted. refl)
