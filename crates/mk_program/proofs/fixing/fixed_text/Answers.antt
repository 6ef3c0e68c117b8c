use Rattle.std.proofs.lemmas.Result.{IfOk-weaker}
use Rattle.mk_program.proofs.fixing.fixed_text.Goals as goal

pub returns-then-proof : goal.returns-then-proof
returns-then-proof c = IfOk-weaker c.write_certificate.result _ _ (λ text is. rw c.if-proof.true (c.in_ok-certificate.certificate, c.in_ok-certificate.ensures, is)) c.write_certificate.ensures.text

pub returns : goal.returns
returns c = rw c.if-proof.false c.in_ok-from_slice.ensures.items
