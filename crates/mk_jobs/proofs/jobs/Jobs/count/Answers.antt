use Rattle.std.proofs.Common.{◌∙◌, ap, length, subst}
use Rattle.mk_jobs.specs.Jobs.{IsValid, node_count}
use Rattle.mk_jobs.proofs.JobsLemmas.{shape_valid}
use Rattle.mk_jobs.proofs.jobs.Jobs.count.Goals as goal

pub returns-clause-count : goal.returns-clause-count
unfolding node_count
returns-clause-count c = c.count.ensures.count ∙ ap (λ jobs. length jobs.plan.nodes) c.self.view_is

pub returns-clause-valid : goal.returns-clause-valid
returns-clause-valid c = subst IsValid c.self.view_is (shape_valid c.self.invariant.shape)
