use Rattle.std.proofs.Common.{ℕ, ◌≡◌, ◌+◌, ◌<◌, [], Less, false, get_or}
use Rattle.mk_path.specs.Paths.{path_cmp}
use Rattle.model_tests.proofs.rows.rise.Given as goal

-- each of the paths so far stands before the next
abbrev pub invariant-loop-place : goal.invariant-loop-place
invariant-loop-place l = (k : ℕ) → k + 1 < l.place
    → path_cmp (get_or l.paths k (record { name = []; tree = false })) (get_or l.paths (k + 1) (record { name = []; tree = false })) ≡ Less
