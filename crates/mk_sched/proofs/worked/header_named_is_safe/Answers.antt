use Rattle.mk_sched.proofs.Computed.{header_named_is_safe}
use Rattle.mk_sched.proofs.worked.header_named_is_safe.Goals as goal

pub returns : goal.returns
returns c = header_named_is_safe
