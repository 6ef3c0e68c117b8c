use Rattle.std.proofs.Common.{◌↔◌, Bool, IfOk, IsTrue, subst, sym}
use Rattle.mk_race.specs.Verified.{IsCertificateOn}
use Rattle.mk_race.proofs.verifying.accept_as.Goals as goal

pub returns-then-short-clause-exact : goal.returns-then-short-clause-exact
returns-then-short-clause-exact c =
    subst (λ (short : Bool). IfOk c.accept_short.result (λ accepted. IsTrue accepted ↔ IsCertificateOn short c.args.jobs.now c.args.certificate.now))
    (sym c.if-short.true) c.accept_short.ensures.certificate

pub returns-else-short-clause-exact : goal.returns-else-short-clause-exact
returns-else-short-clause-exact c =
    subst (λ (short : Bool). IsTrue c.accept.result ↔ IsCertificateOn short c.args.jobs.now c.args.certificate.now)
    (sym c.if-short.false) c.accept.ensures.certificate
