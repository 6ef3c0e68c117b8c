use Rattle.std.proofs.Common.{◌-◌, length, take, drop, arith, ap, ◌∙◌}
use Rattle.std.specs.Cmp.Lexicographic.{slice_cmp}
use Rattle.std.specs.Ordering.{nat_cmp, ordering_then}
use Rattle.std.proofs.lemmas.List.{length-drop, take_all}
use Rattle.mk_path.proofs.RangeTests.{order_cut}
use Rattle.mk_path.proofs.taken.order.Goals as goal

pub returns : goal.returns
returns c =
    let x = c.args.name.now in
    let head = c.args.head.now in
    let cut = c.min-cut.result in
    c.then.ensures ∙ ap (λ o. ordering_then o c.cmp-2.result) c.cmp.ensures ∙ ap (ordering_then (slice_cmp nat_cmp (take cut x) head)) c.cmp-2.ensures
    ∙ ap (λ ys. ordering_then (slice_cmp nat_cmp (take cut x) head) (slice_cmp nat_cmp ys c.args.tail.now)) (take_all (length x - cut) (drop cut x) (omega (arith, length-drop cut x)))
    ∙ order_cut x head c.args.tail.now cut c.min-cut.ensures
