use Rattle.std.proofs.Common.{ℕ, ◌<◌, ◌≤◌, get_or, length}
use Rattle.mk_path.specs.declared.path.Path.{Path}
use Rattle.model_tests.proofs.rows.are_named.Given as goal

-- the paths so far have names
abbrev pub invariant-loop-path : goal.invariant-loop-path
invariant-loop-path l = (k : ℕ) (d : Path) → k < l.path-index → 1 ≤ length (get_or l.paths k d).name
