use Rattle.std.proofs.Common.{◌<◌, length, arith, get_or}
use Rattle.mk_graph.proofs.Collecting.{step_skip, step_more}
use Rattle.mk_graph.proofs.collect.read_entries.Goals as goal
use Rattle.mk_graph.proofs.collect.read_entries.Goals.{then-is_none+in_ok-numbers+in-Some-1, then-is_none+in_ok-numbers+in-None-1, else-is_none}

pub loop-place-preserved : goal.loop-place-preserved
loop-place-preserved c =
    let r = c.loop-place.invariant in
    let i = c.loop-place.place-index in
    let h : c.loop-place.place-index < length c.args.places.now = omega arith in
    let inside : get_or c.args.places.now c.loop-place.place-index 0 < length c.args.book.now.rules = c.requires.within i 0 h in
    let long = c.requires.long in
    let same = r.long in
    let within : get_or c.args.places.now c.loop-place.place-index 0 < length c.loop-place.entries = omega arith in
    elim c.if-is_none.branch [
      | then-is_none+in_ok-numbers+in-Some-1 w ↦ step_more c.args.book.now.rules c.args.places.now i c.args.names.now c.args.entries.now c.loop-place.names c.if-is_none.names w.put_all.new.self c.loop-place.entries c.if-is_none.entries w.rule_prerequisites.result.now w.in_ok-numbers.numbers h long inside w.rule_prerequisites.ensures w.in_ok-numbers.ensures.kept w.in_ok-numbers.ensures.stand w.names-is w.entries-is r
      | then-is_none+in_ok-numbers+in-None-1 w ↦ step_more c.args.book.now.rules c.args.places.now i c.args.names.now c.args.entries.now c.loop-place.names c.if-is_none.names w.put_all.new.self c.loop-place.entries c.if-is_none.entries w.rule_prerequisites.result.now w.in_ok-numbers.numbers h long inside w.rule_prerequisites.ensures w.in_ok-numbers.ensures.kept w.in_ok-numbers.ensures.stand w.names-is w.entries-is r
      | else-is_none w ↦ step_skip c.args.book.now.rules c.args.places.now i c.args.names.now c.args.entries.now c.loop-place.names c.if-is_none.names c.loop-place.entries c.if-is_none.entries c.index-entries-place.result c.is_none.result h within c.is_none.ensures w.if-is_none.false w.names-is w.entries-is r
    ]
