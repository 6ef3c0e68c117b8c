use Rattle.std.proofs.Common.{Ok, Err, refl}
use Rattle.std.proofs.lemmas.Result.{IfOk-weaker}
use Rattle.mk_race.proofs.fixing.try_lines.Goals as goal

pub returns-in-Ok-clause-answer : goal.returns-in-Ok-clause-answer
returns-in-Ok-clause-answer c = IfOk-weaker c.try_jobs.result _ _ (λ tried of texts footprints from.
    (Ok c.in-Ok.prepared, c.in-Ok.ensures texts footprints from, of)) c.try_jobs.ensures.answer

pub returns-in-Err-Fault-clause-answer : goal.returns-in-Err-Fault-clause-answer
returns-in-Err-Fault-clause-answer c = λ texts footprints from.
    rw c.in-Err-Fault.field-0-is (Err c.in-Err-Fault.fault, rw c.in-Err-Fault.field-0-is at (c.in-Err-Fault.ensures texts footprints from), refl)
