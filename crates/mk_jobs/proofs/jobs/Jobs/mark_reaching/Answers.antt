use Rattle.std.proofs.Common.{◌↔◌, ◌⊎◌, subst}
use Rattle.mk_index.specs.Bits.{HasBit}
use Rattle.mk_index.specs.Uses.{Reaches}
use Rattle.mk_jobs.specs.Jobs.{Jobs}
use Rattle.mk_jobs.specs.Reaching.{uses_of}
use Rattle.mk_jobs.proofs.jobs.Jobs.mark_reaching.Goals as goal

pub returns : goal.returns
returns c = λ a.
    subst (λ (jobs : Jobs). HasBit c.mark_reaching.new.row a ↔ (HasBit c.args.row.now a ⊎ Reaches (uses_of jobs) a c.args.b)) c.self.view_is
    (c.mark_reaching.ensures.marked _ a c.self.invariant.indexed)
