use Rattle.std.proofs.Common.{subst, sym}
use Rattle.mk_cert.specs.Sure.{IsSure}
use Rattle.mk_cert.proofs.Sound.{holds}
use Rattle.mk_cert.proofs.Overlapping.{of_race}
use Rattle.mk_cert.proofs.Timing.{by_parts}
use Rattle.mk_cert.proofs.accepting.accept_trace.Goals as goal

pub returns-clause-holds : goal.returns-clause-holds
returns-clause-holds c = λ is.
    holds c.args.jobs.now c.args.trace.now c.count-count.ensures.valid
    (subst (IsSure c.args.jobs.now) (by_parts c.args.trace.now c.first.result c.second.result c.path.result.now c.times.result.now c.steps.result.now
    c.first.ensures c.second.ensures c.path.ensures.value c.times.ensures c.steps.ensures) (c.in_ok-accepted.ensures.0 is))

pub returns-clause-race : goal.returns-clause-race
returns-clause-race c = λ of.
    c.in_ok-accepted.ensures.1 (subst (IsSure c.args.jobs.now) (sym (by_parts c.args.trace.now c.first.result c.second.result c.path.result.now c.times.result.now c.steps.result.now
    c.first.ensures c.second.ensures c.path.ensures.value c.times.ensures c.steps.ensures)) (of_race c.args.jobs.now c.args.trace.now c.count-count.ensures.shape c.count-count.ensures.valid of))
