use Rattle.std.proofs.Common.{◌∙◌, ap}
use Rattle.mk_jobs.specs.Numbered.{number_of}
use Rattle.mk_jobs.specs.Plan.{names_of}
use Rattle.mk_jobs.proofs.Accessors.{number_is}
use Rattle.mk_jobs.proofs.jobs.Jobs.number.Goals as goal

pub returns-clause-place : goal.returns-clause-place
returns-clause-place c = c.number.ensures ∙ ap (λ jobs. number_of (names_of jobs.plan.nodes) c.args.name.now) c.self.view_is

pub returns-clause-number : goal.returns-clause-number
returns-clause-number c = number_is c.args.self.now c.args.name.now _ (returns-clause-place c)
