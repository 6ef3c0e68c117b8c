use Rattle.std.proofs.Common.{arith, inr}
use Rattle.std.proofs.lemmas.Result.{err_from_is_err_and}
use Rattle.mk_files.proofs.Reading.{all_marked, all_named, all_opened, none_open, one_open, shut_first}
use Rattle.mk_files.proofs.inputs.open_all.Goals as goal

pub loop-known-init : goal.loop-known-init
loop-known-init g c = none_open _ _ _ _ _ _ c.new-files.ensures.items

pub loop-known-preserved : goal.loop-known-preserved
loop-known-preserved g c =
    let reported = c.in_ok-file.ensures in
    one_open _ _ _ _ _ _ _ _ _ c.in_ok-file.file c.loop-known.known-index _ c.loop-known-test.true c.loop-known.invariant
    reported.works reported.input reported.text reported.reads reported.can c.opened_input.ensures.same c.in_ok-push.ensures.items

pub returns-in_err-file-clause-failure : goal.returns-in_err-file-clause-failure
returns-in_err-file-clause-failure g c =
    let p = err_from_is_err_and c.from_residual.result c.from_residual.ensures.1 in
    let failed = c.in_err-file.ensures.cannot in
    rw (p.1, p.2) (inr (_, failed.0, shut_first _ _ _ _ _ _ _ _ _ c.loop-known-test.true c.loop-known.invariant failed.1))

pub returns-clause-named : goal.returns-clause-named
returns-clause-named g c = all_named _ _ _ _ _ _ _ _ c.loop-known.invariant (omega (arith, c.loop-known-test.false))

pub returns-clause-reads : goal.returns-clause-reads
returns-clause-reads g c = all_marked _ _ _ _ _ _ _ _ c.loop-known.invariant (omega (arith, c.loop-known-test.false))

pub returns-clause-reported : goal.returns-clause-reported
returns-clause-reported g c = c.loop-known.invariant.reported

pub returns-clause-opened : goal.returns-clause-opened
returns-clause-opened g c = all_opened _ _ _ _ _ _ _ _ c.loop-known.invariant (omega (arith, c.loop-known-test.false))

pub returns-clause-works : goal.returns-clause-works
returns-clause-works g c = c.loop-known.invariant.works
