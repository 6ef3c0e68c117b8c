use Rattle.std.proofs.Common.{sym, subst}
use Rattle.mk_jobs.specs.Shape.{IsRising}
use Rattle.mk_foot.proofs.AttachNodes.{rising_nil}
use Rattle.mk_foot.proofs.attaching.row_of.Goals as goal

pub returns-then-not-is_live-clause-rising : goal.returns-then-not-is_live-clause-rising
returns-then-not-is_live-clause-rising c =
    (subst IsRising (sym c.new.ensures.items) rising_nil, subst IsRising (sym c.new-then-not-is_live.ensures.items) rising_nil)
