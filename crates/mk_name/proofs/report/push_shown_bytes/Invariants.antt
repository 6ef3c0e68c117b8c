use Rattle.std.proofs.Common.{◌≡◌, ◌++◌, take}
use Rattle.mk_name.specs.Shown as spec
use Rattle.mk_name.proofs.report.push_shown_bytes.Given as goal

-- the bytes so far are shown
abbrev pub invariant-loop-byte : goal.invariant-loop-byte
invariant-loop-byte l = l.out.items ≡ l.fn.out.items ++ spec.shown (take l.byte-index l.name)
