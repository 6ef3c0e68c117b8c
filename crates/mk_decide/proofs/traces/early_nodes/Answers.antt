use Rattle.std.proofs.Common.{ℕ, ◌≤◌, subst}
use Rattle.mk_decide.proofs.Tracing.{reports_all}
use Rattle.mk_decide.proofs.traces.early_nodes.Goals as goal

pub returns-clause-reports : goal.returns-clause-reports
returns-clause-reports g c =
    reports_all c.args.jobs.now c.args.first c.args.second c.loop-n.n c.loop-n.early.items c.count-n-end.ensures.valid c.requires.first c.requires.second
    (subst (λ (k : ℕ). k ≤ c.loop-n.n) c.count-n-end.ensures.count c.loop-n-test.false) c.loop-n.invariant.long c.loop-n.invariant.reports
