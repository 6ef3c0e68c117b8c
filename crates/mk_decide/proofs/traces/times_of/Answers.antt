use Rattle.std.proofs.Common.{ap, sym, ◌∙◌}
use Rattle.mk_decide.proofs.Tracing.{time_less, time_more}
use Rattle.mk_decide.proofs.traces.times_of.Goals as goal
use Rattle.mk_decide.proofs.traces.times_of.Goals.{then-is_listed+in_ok-push, else-is_listed}

pub loop-n-preserved : goal.loop-n-preserved
loop-n-preserved c = elim c.if-is_listed.branch [
  | then-is_listed+in_ok-push w ↦
      time_more c.args.jobs.now c.loop-n.times.items c.if-is_listed.times.items c.loop-n.n c.count-count.result c.loop-n-test.true (sym c.is_listed.ensures ∙ w.if-is_listed.true)
      (ap (λ v. v.items) w.times-is ∙ w.in_ok-push.ensures.items) c.loop-n.invariant
  | else-is_listed w ↦
      time_less c.args.jobs.now c.loop-n.times.items c.if-is_listed.times.items c.loop-n.n c.count-count.result c.loop-n-test.true (sym c.is_listed.ensures ∙ w.if-is_listed.false)
      (ap (λ v. v.items) w.times-is) c.loop-n.invariant
]
