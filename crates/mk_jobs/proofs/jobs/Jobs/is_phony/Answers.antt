use Rattle.std.proofs.Common.{◌∙◌, ap}
use Rattle.mk_jobs.specs.Plan.{Node}
use Rattle.mk_jobs.specs.Jobs.{is_phony}
use Rattle.mk_jobs.proofs.Accessors.{plan_has, plan_node}
use Rattle.mk_jobs.proofs.jobs.Jobs.is_phony.Goals as goal

pub is_phony-requires : goal.is_phony-requires
is_phony-requires c = plan_has _ c.args.self.now _ (ap (λ jobs. jobs.plan) c.self.view_is) c.requires

pub returns : goal.returns
unfolding is_phony
returns c = c.is_phony.ensures ∙ ap (λ (d : Node). d.phony) (plan_node _ c.args.self.now _ (ap (λ jobs. jobs.plan) c.self.view_is))
