use Rattle.std.proofs.Common.{◌≡◌, ◌++◌, take}
use Rattle.std.specs.List.{flat_map}
use Rattle.mk_report.specs.MissingText.{present_line}
use Rattle.mk_report.proofs.missing.push_all_present.Given as goal

-- the lines so far are there
abbrev pub invariant-loop-node : goal.invariant-loop-node
invariant-loop-node l = l.out.items ≡ l.initial.out.items ++ flat_map (present_line l.jobs) (take l.node-index l.nodes)
