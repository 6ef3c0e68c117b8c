use Rattle.std.proofs.Common.{Err, Ok}
use Rattle.std.proofs.lemmas.Result.{err_from_is_err_and}
use Rattle.mk_due.proofs.LineByLine.{jobs_halt, made_answers}
use Rattle.mk_due.proofs.reading.read_due_tasks.Goals as goal

pub returns-in_err-items-clause-jobs : goal.returns-in_err-items-clause-jobs
returns-in_err-items-clause-jobs c =
    let p = err_from_is_err_and c.from_residual.result c.from_residual.ensures.1 in
    rw (p.1, p.2) (jobs_halt c.args.root.now c.args.listing.now c.args.text.now c.in_err-items.field-0.0 c.in_err-items.ensures.fault)

pub returns-in_err-jobs-clause-jobs : goal.returns-in_err-jobs-clause-jobs
returns-in_err-jobs-clause-jobs c =
    let p = err_from_is_err_and c.from_residual-in_err-jobs.result c.from_residual-in_err-jobs.ensures.1 in
    rw (p.1, p.2) (made_answers c.args.root.now c.args.listing.now c.args.text.now c.in_ok-items.items.items (Err c.in_err-jobs.field-0.0)
    c.in_ok-items.ensures.items c.in_err-jobs.ensures)

pub returns-clause-jobs : goal.returns-clause-jobs
returns-clause-jobs c =
    made_answers c.args.root.now c.args.listing.now c.args.text.now c.in_ok-items.items.items (Ok c.in_ok-jobs.jobs) c.in_ok-items.ensures.items c.in_ok-jobs.ensures
