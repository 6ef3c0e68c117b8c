use Rattle.std.proofs.Common.{◌∙◌, ap}
use Rattle.mk_jobs.specs.Plan.{Node}
use Rattle.mk_jobs.specs.Jobs.{prerequisites_of}
use Rattle.mk_jobs.proofs.Accessors.{plan_has, plan_node}
use Rattle.mk_jobs.proofs.jobs.Jobs.prerequisites.Goals as goal

pub prerequisites-requires : goal.prerequisites-requires
prerequisites-requires c = plan_has _ c.args.self.now _ (ap (λ jobs. jobs.plan) c.self.view_is) c.requires

pub returns : goal.returns
unfolding prerequisites_of
returns c = c.prerequisites.ensures.value ∙ ap (λ (d : Node). d.prerequisites) (plan_node _ c.args.self.now _ (ap (λ jobs. jobs.plan) c.self.view_is))
