use Rattle.std.proofs.Common.{◌∙◌, ap, sym, Ok, arith}
use Rattle.std.proofs.lemmas.Result.{err_from_is_err_and}
use Rattle.mk_race.proofs.GoalsLemmas.{Halts-along, goals_fault, goals_more}
use Rattle.mk_race.proofs.settings.goals_among.Goals as goal

pub returns-in_err-goal-clause-fault : goal.returns-in_err-goal-clause-fault
returns-in_err-goal-clause-fault c =
    let p = err_from_is_err_and c.from_residual.result c.from_residual.ensures.1 in
    rw (p.1, p.2) (Halts-along c.in_err-goal.field-0.0 _ _
    (λ reported. goals_fault c.args.root.now c.args.operands.now c.loop-number.number _ _ reported (omega (arith, c.loop-number-test.true)) c.loop-number.invariant)
    c.in_err-goal.ensures)

pub loop-number-preserved : goal.loop-number-preserved
loop-number-preserved c =
    goals_more c.args.root.now c.args.operands.now c.loop-number.number _ _ _ (omega (arith, c.loop-number-test.true)) c.loop-number.invariant c.in_ok-goal.ensures
    ∙ ap Ok (sym c.in_ok-add_goal.ensures)
