use Rattle.std.proofs.Common.{◌≡◌, length}
use Rattle.std.specs.Cmp.Lexicographic.{slice_cmp}
use Rattle.std.specs.Ordering.{nat_cmp}
use Rattle.mk_name.proofs.Bytes.{AreSmall}
use Rattle.mk_name.proofs.order.compare.Given as goal

-- the rests stand to each other as the whole texts do
abbrev pub invariant-steps : goal.invariant-steps
invariant-steps l = record {
  same : slice_cmp nat_cmp l.left l.right ≡ slice_cmp nat_cmp l.fn.one l.fn.other;
  left_bytes : AreSmall l.left;
  right_bytes : AreSmall l.right;
}

abbrev pub decreases-steps : goal.decreases-steps
decreases-steps l = length l.left
