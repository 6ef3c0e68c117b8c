use Rattle.mk_fix.proofs.Adding.{before_more}
use Rattle.mk_fix.proofs.laws.before_grows.Goals as goal

pub returns : goal.returns
returns c = λ jobs edges a b rising. before_more edges
