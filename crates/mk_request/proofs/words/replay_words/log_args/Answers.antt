use Rattle.std.proofs.Common.{◌∙◌, codes}
use Rattle.clap.specs.Words.{found_of}
use Rattle.clap.proofs.WalkLemmas.{first_value-rows}
use Rattle.mk_request.proofs.words.replay_words.log_args.Goals as goal

pub returns : goal.returns
returns c =
    let asked = c.get_str.ensures ∙ first_value-rows (found_of c.args.found.now) (codes "limit") in
    record { log = c.value_in.ensures; limit = λ limit is. c.limit_of.ensures limit (rw asked is); tie = c.is_set.ensures }
