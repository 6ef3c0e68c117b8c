use Rattle.mk_missing.proofs.Alone.{present_nobody, present_some}
use Rattle.mk_missing.proofs.Presents.{test_is}
use Rattle.mk_missing.proofs.flaws.is_present_name.Goals as goal

pub returns-in-Some : goal.returns-in-Some
returns-in-Some c =
    let jobs = c.args.jobs.now in
    let n = c.in-Some.n in
    present_some jobs c.args.name.now n c.is_present.result c.requires c.in-Some.ensures.number.0 c.in-Some.ensures.number.1 (test_is jobs n c.is_present.result c.is_present.ensures)

pub returns-in-None : goal.returns-in-None
returns-in-None c = present_nobody c.args.jobs.now c.args.name.now c.in-None.ensures.number
