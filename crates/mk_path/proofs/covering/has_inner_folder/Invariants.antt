use Rattle.std.proofs.Common.{◌≡◌, ℕ, ◌<◌, ◌≤◌, false, get_or, length, take}
use Rattle.std.specs.List.Sorted.{IsStrictlySortedBy}
use Rattle.mk_path.specs.Covering.{has_tree}
use Rattle.mk_path.specs.Paths.{path_cmp}
use Rattle.mk_path.proofs.covering.has_inner_folder.Given as goal

abbrev pub invariant-loop-i : goal.invariant-loop-i
invariant-loop-i l = record {
  within : l.i ≤ length l.text;
  rise : IsStrictlySortedBy path_cmp l.rest;
  left : (k : ℕ) → k < l.i → has_tree l.rest (take k l.text) ≡ has_tree l.paths (take k l.text);
  none : (k : ℕ) → 0 < k → l.i ≤ k → k < length l.text → get_or l.text k 0 ≡ 47 → has_tree l.paths (take k l.text) ≡ false;
  long : (k : ℕ) → l.most < k → k < l.i → has_tree l.paths (take k l.text) ≡ false;
}

abbrev pub decreases-loop-i : goal.decreases-loop-i
decreases-loop-i l = l.i
