use Rattle.mk_index.proofs.Searching.{found_is}
use Rattle.mk_missing.proofs.users.is_among.Goals as goal

pub returns : goal.returns
returns c = found_is c.args.numbers.now c.args.n c.binary_search.result c.is_ok.result c.is_ok.ensures.value c.binary_search.ensures.position c.requires
