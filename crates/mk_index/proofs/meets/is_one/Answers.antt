use Rattle.mk_index.proofs.Searching.{found_is}
use Rattle.mk_index.proofs.meets.is_one.Goals as goal

pub returns : goal.returns
returns c = found_is c.args.numbers.now c.args.t c.binary_search.result c.is_ok.result c.is_ok.ensures.value c.binary_search.ensures.position c.requires
