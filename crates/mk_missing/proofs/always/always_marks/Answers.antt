use Rattle.mk_missing.proofs.Awake.{always_more}
use Rattle.mk_missing.proofs.always.always_marks.Goals as goal

pub loop-n-preserved : goal.loop-n-preserved
loop-n-preserved c = always_more c.args.jobs.now c.loop-n.marks.items c.push.new.self.items c.loop-n.n c.runs_always-mark.result c.loop-n.invariant c.in_ok-push.ensures.items c.runs_always-mark.ensures
