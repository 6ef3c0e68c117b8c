use Rattle.mk_index.proofs.Placing.{none_of}
use Rattle.mk_index.proofs.index.Index.place.Goals as goal

pub returns-in-None-clause-none : goal.returns-in-None-clause-none
returns-in-None-clause-none c = none_of c.args.self.now c.args.t c.place_among-in-None.result c.in-None.ensures.none c.place_among-in-None.ensures.none
