use Rattle.mk_race.proofs.ProofTexts.{certificate_judged, trace_judged}
use Rattle.mk_race.proofs.verifying.judge.Goals as goal

pub returns-in-Certificate : goal.returns-in-Certificate
returns-in-Certificate c =
    certificate_judged c.args.short c.args.jobs.now c.args.proof.now c.in-Certificate.certificate c.in-Certificate.is c.accept_as.result c.accept_as.ensures.exact c.accept_as.ensures.determinate

pub returns-in-Trace : goal.returns-in-Trace
returns-in-Trace c =
    trace_judged c.args.short c.args.jobs.now c.args.proof.now c.in-Trace.trace c.in-Trace.is c.accept_trace.result c.accept_trace.ensures.sure c.accept_trace.ensures.holds
