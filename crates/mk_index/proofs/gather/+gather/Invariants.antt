use Rattle.std.proofs.Common.{length}
use Rattle.mk_index.proofs.gather.+gather.Given as goal

abbrev pub decreases-gather : goal.decreases-gather
decreases-gather l = length l.rows.now
