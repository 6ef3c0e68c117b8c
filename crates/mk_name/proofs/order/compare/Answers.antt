use Rattle.std.proofs.Common.{drop, sym, ◌∙◌, ap, subst, arith}
use Rattle.std.specs.Cmp.Lexicographic.{slice_cmp}
use Rattle.std.specs.Ordering.{nat_cmp}
use Rattle.mk_name.proofs.Bytes.{AreFirsts, AreSmall, decided, firsts, small_rest, stepped, undecided}
use Rattle.mk_name.proofs.order.compare.Goals as goal

pub steps-smaller : goal.steps-smaller
steps-smaller c = omega (arith, c.in-Some-Some.ensures.cases.2)

pub steps-preserved : goal.steps-preserved
steps-preserved c =
    let left = c.steps.left.now in
    let right = c.steps.right.now in
    let one = c.in-Some-Some.ensures.cases in
    let other = c.in-Some-Some.ensures'.cases in
    let at = c.steps.invariant in
    let are : AreFirsts left right c.number-first.result c.number-second.result = firsts left right _ _ _ _ _ _ one other c.number-first.ensures c.number-second.ensures at.left_bytes at.right_bytes in
    let rest = slice_cmp nat_cmp (drop 8 left) (drop 8 right) in
    record {
      same = ap (λ xs. slice_cmp nat_cmp xs c.in-Some-Some.after_second.now) one.1 ∙ ap (slice_cmp nat_cmp (drop 8 left)) other.1
          ∙ sym (undecided c.number-first.result c.number-second.result rest c.if-first-second.false) ∙ sym (stepped left right _ _ are) ∙ at.same;
      left_bytes = subst AreSmall (sym one.1) (small_rest 8 left at.left_bytes);
      right_bytes = subst AreSmall (sym other.1) (small_rest 8 right at.right_bytes);
    }

pub returns-then-first-second : goal.returns-then-first-second
returns-then-first-second c =
    let left = c.steps.left.now in
    let right = c.steps.right.now in
    let at = c.steps.invariant in
    let are : AreFirsts left right c.number-first.result c.number-second.result =
    firsts left right _ _ _ _ _ _ c.in-Some-Some.ensures.cases c.in-Some-Some.ensures'.cases c.number-first.ensures c.number-second.ensures at.left_bytes at.right_bytes in
    c.cmp.ensures ∙ sym (decided c.number-first.result c.number-second.result (slice_cmp nat_cmp (drop 8 left) (drop 8 right)) c.if-first-second.true)
    ∙ sym (stepped left right _ _ are) ∙ at.same
