use Rattle.std.proofs.Common.{refl}
use Rattle.clap.specs.Words.{found_of}
use Rattle.mk_request.proofs.Values.{text_is}
use Rattle.mk_request.proofs.words.value_in.Goals as goal

pub returns : goal.returns
returns c = text_is _ _ _ (found_of c.args.found.now) c.args.name.now c.unwrap_or.ensures refl c.get_str.ensures
