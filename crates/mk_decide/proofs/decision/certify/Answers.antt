use Rattle.mk_decide.proofs.Deciding.{few_not_many}
use Rattle.mk_decide.proofs.decision.certify.Goals as goal

pub unreachable-requires-in-Err-Fault : goal.unreachable-requires-in-Err-Fault
unreachable-requires-in-Err-Fault c =
    let many = rw c.in-Err-Fault.field-0-is at c.in-Err-Fault.ensures.many in
    few_not_many c.requires.few many.1
