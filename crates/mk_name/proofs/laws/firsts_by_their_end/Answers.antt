use Rattle.mk_name.specs.Names.{same_name}
use Rattle.mk_name.proofs.Names.{name_is_exact, firsts_again, firsts_first}
use Rattle.mk_name.proofs.laws.firsts_by_their_end.Goals as goal

pub returns-clause-again : goal.returns-clause-again
returns-clause-again c = firsts_again same_name name_is_exact

pub returns-clause-first : goal.returns-clause-first
returns-clause-first c = firsts_first same_name name_is_exact
