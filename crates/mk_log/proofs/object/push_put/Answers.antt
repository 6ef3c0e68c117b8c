use Rattle.std.proofs.lemmas.Result.{on_ok_weaker}
use Rattle.json.specs.Token.{begin_object, end_object}
use Rattle.mk_log.proofs.Gaining.{gains_both, gains_one}
use Rattle.mk_log.proofs.object.push_put.Goals as goal

pub returns-clause-object : goal.returns-clause-object
returns-clause-object c =
    let opened = c.in_ok-begin_object.ensures in
    on_ok_weaker c.end_object.result
    (λ e. gains_both (gains_one c.args.line.now c.begin_object.new.self begin_object opened.room.0 opened.ok)
    (gains_both c.in_ok-push_bytes.ensures.member
    (gains_both c.in_ok-push_text.ensures
    (gains_both c.in_ok-push_text-2.ensures
    (gains_both c.in_ok-push_text-3.ensures
    (gains_both c.in_ok-push_time.ensures (gains_one c.push_time.new.line c.end_object.new.self end_object c.end_object.ensures.room.0 e)))))))
    c.end_object.ensures.ok
