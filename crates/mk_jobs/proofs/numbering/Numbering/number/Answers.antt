use Rattle.std.proofs.Common.{◌∙◌, ap}
use Rattle.mk_jobs.specs.Numbered.{number_of}
use Rattle.mk_jobs.proofs.Numberings.{number_found}
use Rattle.mk_jobs.proofs.numbering.Numbering.number.Goals as goal

pub returns : goal.returns
returns c = c.get_index_of.ensures.index ∙ number_found c.self.inside.names.keys c.args.name.now ∙ ap (λ ns. number_of ns c.args.name.now) c.self.view_is
