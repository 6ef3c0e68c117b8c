use Rattle.std.proofs.Common.{◌∙◌, ap, subst}
use Rattle.mk_jobs.specs.Plan.{Node}
use Rattle.mk_jobs.specs.Jobs.{name_of}
use Rattle.mk_jobs.specs.Shape.{IsWellFormed}
use Rattle.mk_jobs.proofs.Accessors.{number_found, plan_has, plan_node}
use Rattle.mk_jobs.proofs.jobs.Jobs.name.Goals as goal

pub name-requires : goal.name-requires
name-requires c = plan_has _ c.args.self.now _ (ap (λ jobs. jobs.plan) c.self.view_is) c.requires

pub returns-clause-name : goal.returns-clause-name
unfolding name_of
returns-clause-name c = c.name.ensures ∙ ap (λ (d : Node). d.name) (plan_node _ c.args.self.now _ (ap (λ jobs. jobs.plan) c.self.view_is))

pub returns-clause-number : goal.returns-clause-number
returns-clause-number c = number_found c.args.self.now c.args.n (subst IsWellFormed c.self.view_is c.self.invariant.shape) c.requires
