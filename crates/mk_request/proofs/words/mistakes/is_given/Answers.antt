use Rattle.std.proofs.Common.{ap, is_some, ◌∙◌}
use Rattle.clap.specs.Words.{found_of}
use Rattle.clap.proofs.WalkLemmas.{first_value-rows}
use Rattle.mk_request.proofs.Values.{kept}
use Rattle.mk_request.proofs.words.mistakes.is_given.Goals as goal

pub returns : goal.returns
returns c =
    c.is_some.ensures ∙ kept c.get_str.result ∙ ap is_some (c.get_str.ensures ∙ first_value-rows (found_of c.args.found.now) c.args.name.now)
