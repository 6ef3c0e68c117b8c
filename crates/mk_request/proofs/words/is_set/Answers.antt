use Rattle.std.proofs.Common.{ap, ◌∙◌}
use Rattle.clap.specs.Words.{found_of}
use Rattle.clap.proofs.WalkLemmas.{first_value-rows}
use Rattle.mk_request.specs.CommandLine as spec
use Rattle.mk_request.proofs.words.is_set.Goals as goal

pub returns : goal.returns
returns c = c.is_true.ensures ∙ ap spec.is_true (c.get_str.ensures ∙ first_value-rows (found_of c.args.found.now) c.args.name.now)
