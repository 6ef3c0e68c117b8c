use Rattle.std.proofs.Common.{ℕ, ◌≡◌, ◌++◌, List, take}
use Rattle.mk_report.specs.FixText.{AreFixLines}
use Rattle.mk_report.specs.declared.fixes.Form.TheVariants.{Tasks}
use Rattle.mk_report.proofs.fixes.push_task_lines.Given as goal

-- the lines of the edges so far are there
abbrev pub invariant-loop-edge : goal.invariant-loop-edge
invariant-loop-edge l = (lines : List ℕ) × AreFixLines Tasks l.jobs (take l.edge-index l.edges) lines × (l.out.items ≡ l.initial.out.items ++ lines)
