use Rattle.std.proofs.Common.{arith}
use Rattle.std.proofs.lemmas.List.{length-drop}
use Rattle.std.proofs.lemmas.Result.{err_from_is_err_and}
use Rattle.mk_device.proofs.Written.{written_more}
use Rattle.mk_device.proofs.device.write_all.Goals as goal

pub returns-in_err-taken-clause-beginning : goal.returns-in_err-taken-clause-beginning
returns-in_err-taken-clause-beginning g c =
    let p = err_from_is_err_and c.from_residual.result c.from_residual.ensures.1 in
    rw (p.1) (_, written_more _ _ _ c.args.bytes.now c.writes.taken c.in_err-taken.ensures.beginning.0 c.writes.invariant.front c.in_err-taken.ensures.beginning.1)

pub writes-preserved : goal.writes-preserved
writes-preserved g c = record {
  works = c.in_ok-taken.ensures.failed;
  within = omega (arith, c.in_ok-taken.ensures.bound, length-drop c.writes.taken c.args.bytes.now);
  front = written_more _ _ _ c.args.bytes.now c.writes.taken _ c.writes.invariant.front c.in_ok-taken.ensures.grows;
}
