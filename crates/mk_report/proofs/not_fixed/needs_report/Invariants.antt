use Rattle.std.proofs.Common.{◌≡◌, ◌++◌, take}
use Rattle.std.specs.List.{flat_map}
use Rattle.mk_report.specs.FixText.{need_line}
use Rattle.mk_report.proofs.not_fixed.needs_report.Given as goal

-- the lines of the edges so far are there
abbrev pub invariant-loop-edge : goal.invariant-loop-edge
invariant-loop-edge l = l.out.items ≡ l.initial.out.items ++ flat_map (need_line l.form l.jobs) (take l.edge-index l.edges)
