use Rattle.std.proofs.Common.{◌<◌, length, arith}
use Rattle.mk_jobs.proofs.Numberings.{put_begun, put_kept, put_stand}
use Rattle.mk_jobs.proofs.numbering.Numbering.put_all.Goals as goal

pub loop-name-preserved : goal.loop-name-preserved
loop-name-preserved c =
    let i = c.loop-name.invariant in
    let e = c.in_ok-put.ensures in
    let within : c.loop-name.name-index < length c.args.some.now = omega arith in
    record {
      kept = put_kept c.args.self.now c.args.some.now c.loop-name.self c.put.new.self c.loop-name.name-index c.name-item.result within c.name-item.is i.kept e.kept;
      stand = rw c.in_ok-push.ensures.items (put_stand c.args.some.now c.loop-name.self c.put.new.self c.loop-name.numbers.items c.loop-name.name-index c.in_ok-put.field-0 c.name-item.result within c.name-item.is e.kept e.within e.name i.stand);
    }

pub returns-in_err-push-clause-begun : goal.returns-in_err-push-clause-begun
returns-in_err-push-clause-begun c =
    let within : c.loop-name.name-index < length c.args.some.now = omega arith in
    put_begun c.from_residual-in_err-push.result c.args.self.now c.args.some.now c.put.new.self c.loop-name.name-index within
    (put_kept c.args.self.now c.args.some.now c.loop-name.self c.put.new.self c.loop-name.name-index c.name-item.result within c.name-item.is c.loop-name.invariant.kept c.in_ok-put.ensures.kept)
