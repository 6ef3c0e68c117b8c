use Rattle.std.proofs.Common.{◌≡◌, ◌==◌, true, false, ap, arith, length, not, ◌&&◌, subst, sym, ◌∙◌, is_some}
use Rattle.std.specs.Borrow.{Bor}
use Rattle.mk_sched.specs.declared.file.File.{File}
use Rattle.mk_sched.specs.Stored.{store_of}
use Rattle.mk_log.specs.Logs.{Log}
use Rattle.mk_log.specs.Reading.{IsLogOf}
use Rattle.mk_log.proofs.Entering.{may_hold, reports_nothing}
use Rattle.mk_log.proofs.reading.may_hold.Goals as goal

pub returns-then-is_empty : goal.returns-then-is_empty
returns-then-is_empty c before bytes time known =
    let events = c.log.inside.events in
    let log : Log = record { store = c.log.inside.store; events = events.items } in
    let none : (length log.events == 0) ≡ true = ap (λ n. n == 0) (omega (arith, events.ok.0)) ∙ sym c.is_empty.ensures ∙ c.if-is_empty.true in
    reports_nothing (λ (f : Bor File). f.now) c.file.result (store_of log.store c.args.path.now) c.is_none.result c.is_none.ensures c.file.ensures
    ∙ ap (λ b. b && not (is_some (store_of log.store c.args.path.now))) (sym none)
    ∙ sym (may_hold before log c.args.path.now bytes time (subst (λ (l : Log). IsLogOf before l) (sym c.log.view_is) known))

pub returns-else-is_empty : goal.returns-else-is_empty
returns-else-is_empty c before bytes time known =
    let events = c.log.inside.events in
    let log : Log = record { store = c.log.inside.store; events = events.items } in
    let some : (length log.events == 0) ≡ false = ap (λ n. n == 0) (omega (arith, events.ok.0)) ∙ sym c.is_empty.ensures ∙ c.if-is_empty.false in
    c.if-is_empty.false
    ∙ ap (λ b. b && not (is_some (store_of log.store c.args.path.now))) (sym some)
    ∙ sym (may_hold before log c.args.path.now bytes time (subst (λ (l : Log). IsLogOf before l) (sym c.log.view_is) known))
