use Rattle.mk_fix.proofs.Adding.{live_same}
use Rattle.mk_fix.proofs.laws.live_stays.Goals as goal

pub returns : goal.returns
returns c = λ jobs edges n rising. live_same jobs edges rising n
