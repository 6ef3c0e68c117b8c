use Rattle.std.proofs.Common.{[]}
use Rattle.mk_name.specs.Names.{same_name}
use Rattle.mk_name.proofs.Names.{name_is_exact, distinct_kept, has-firsts}
use Rattle.mk_name.proofs.laws.firsts_are_the_same_names.Goals as goal

pub returns-clause-same : goal.returns-clause-same
returns-clause-same c = has-firsts same_name name_is_exact

pub returns-clause-once : goal.returns-clause-once
returns-clause-once c names = distinct_kept same_name name_is_exact [] names tt
