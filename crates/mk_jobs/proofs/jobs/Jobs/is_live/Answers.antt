use Rattle.std.proofs.Common.{◌∙◌, ap}
use Rattle.mk_jobs.specs.Recipes.{is_live_node}
use Rattle.mk_jobs.proofs.Accessors.{live_is, plan_has, plan_node}
use Rattle.mk_jobs.proofs.jobs.Jobs.is_live.Goals as goal

pub is_live-requires : goal.is_live-requires
is_live-requires c = plan_has _ c.args.self.now _ (ap (λ jobs. jobs.plan) c.self.view_is) c.requires

pub returns : goal.returns
returns c = c.is_live.ensures ∙ ap is_live_node (plan_node _ c.args.self.now _ (ap (λ jobs. jobs.plan) c.self.view_is)) ∙ live_is c.args.self.now _
