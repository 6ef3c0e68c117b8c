use Rattle.std.proofs.Common.{ℕ, ◌≡◌, ◌≤◌, ◌<◌, length, take, get_or, map}
use Rattle.mk_index.specs.Nearest.{IsTreeAt}
use Rattle.mk_index.proofs.nearest.inner.Given as goal

abbrev pub invariant-loop-i : goal.invariant-loop-i
invariant-loop-i l = record {
  within : l.i ≤ length l.text;
  none : (v k : ℕ) → 0 < k → l.i ≤ k → k < length l.text → get_or l.text k 0 ≡ 47 → IsTreeAt (map (λ path. path.now) l.paths) v (take k l.text) → ⊥;
  long : (v k : ℕ) → l.most < k → k < l.i → IsTreeAt (map (λ path. path.now) l.paths) v (take k l.text) → ⊥;
}

abbrev pub decreases-loop-i : goal.decreases-loop-i
decreases-loop-i l = l.i
