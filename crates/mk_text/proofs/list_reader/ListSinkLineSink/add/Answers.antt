use Rattle.std.proofs.Common.{refl, subst, sym}
use Rattle.mk_text.specs.ListReader.{HasListed, Listed}
use Rattle.mk_text.proofs.ListReading.{lists_more, lists_none}
use Rattle.mk_text.proofs.list_reader.ListSinkLineSink.add.Goals as goal

pub returns-in-Ok-clause-ok : goal.returns-in-Ok-clause-ok
returns-in-Ok-clause-ok c = λ root ended whole before next.
    let inside = subst (λ (l : Listed). HasListed root l ended) (sym c.self.view_is) before in
    lists_more root ended whole c.args.line.now c.args.place _ inside next _ c.in-Ok.ensures.ok refl

pub returns-clause-err : goal.returns-clause-err
returns-clause-err c = λ root ended whole before next.
    let inside = subst (λ (l : Listed). HasListed root l ended) (sym c.self.view_is) before in
    let halts = c.in-Err-Fault.ensures.err in
    lists_none root ended whole c.args.line.now c.args.place _ inside next c.in-Err-Fault.field-0-0 (rw c.in-Err-Fault.field-0-is at halts)
