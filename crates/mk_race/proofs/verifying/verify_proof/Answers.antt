use Rattle.std.proofs.lemmas.Result.{err_from_is_err_and}
use Rattle.mk_race.proofs.ProofTexts.{build_shows, proof_unread, tasks_show, verified_on}
use Rattle.mk_race.proofs.verifying.verify_proof.Goals as goal

pub returns-in_err-read-clause-answer : goal.returns-in_err-read-clause-answer
returns-in_err-read-clause-answer c =
    let p = err_from_is_err_and c.from_residual.result c.from_residual.ensures.1 in
    rw (p.1, p.2) (proof_unread c.args.short c.args.jobs.now c.args.proof.now c.in_err-read.field-0.0 c.in_err-read.ensures)

pub returns-clause-answer : goal.returns-clause-answer
returns-clause-answer c =
    verified_on c.args.short c.args.jobs.now c.args.proof.now c.in_ok-read.read c.in_ok-accepted.accepted c.in_ok-read.ensures c.in_ok-accepted.ensures

pub returns-clause-shows : goal.returns-clause-shows
returns-clause-shows c =
    build_shows c.args.short c.args.jobs.now c.args.proof.now c.in_ok-read.read c.in_ok-accepted.accepted c.in_ok-read.ensures c.in_ok-accepted.ensures

pub returns-clause-of_tasks : goal.returns-clause-of_tasks
returns-clause-of_tasks c =
    tasks_show c.args.short c.args.jobs.now c.args.proof.now c.in_ok-read.read c.in_ok-accepted.accepted c.in_ok-read.ensures c.in_ok-accepted.ensures
