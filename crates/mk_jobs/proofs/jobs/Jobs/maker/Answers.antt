use Rattle.std.proofs.Common.{◌∙◌, ap}
use Rattle.mk_jobs.specs.Plan.{Node}
use Rattle.mk_jobs.specs.Jobs.{maker_of}
use Rattle.mk_jobs.proofs.Accessors.{plan_has, plan_node}
use Rattle.mk_jobs.proofs.jobs.Jobs.maker.Goals as goal

pub maker-requires : goal.maker-requires
maker-requires c = plan_has _ c.args.self.now _ (ap (λ jobs. jobs.plan) c.self.view_is) c.requires

pub returns : goal.returns
unfolding maker_of
returns c = c.maker.ensures ∙ ap (λ (d : Node). d.maker) (plan_node _ c.args.self.now _ (ap (λ jobs. jobs.plan) c.self.view_is))
