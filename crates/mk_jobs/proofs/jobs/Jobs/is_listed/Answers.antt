use Rattle.std.proofs.Common.{◌∙◌, ap}
use Rattle.mk_jobs.specs.Plan.{Node}
use Rattle.mk_jobs.specs.Jobs.{is_listed}
use Rattle.mk_jobs.proofs.Accessors.{plan_has, plan_node}
use Rattle.mk_jobs.proofs.jobs.Jobs.is_listed.Goals as goal

pub is_listed-requires : goal.is_listed-requires
is_listed-requires c = plan_has _ c.args.self.now _ (ap (λ jobs. jobs.plan) c.self.view_is) c.requires

pub returns : goal.returns
unfolding is_listed
returns c = c.is_listed.ensures ∙ ap (λ (d : Node). d.listed) (plan_node _ c.args.self.now _ (ap (λ jobs. jobs.plan) c.self.view_is))
