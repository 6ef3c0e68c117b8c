use Rattle.std.proofs.Common.{◌≡◌, false, List, ℕ}
use Rattle.std.specs.Io.KnownBytes.{Consumes}
use Rattle.mk_read.proofs.devices.read_past.Given as goal

-- the device gave some bytes of what it had
abbrev pub invariant-reads : goal.invariant-reads
invariant-reads g l = record {
  works : g.I.Intake.has_failed l.device ≡ false;
  same : g.I.Intake.readable l.device ≡ g.I.Intake.readable l.fn.device;
  bytes : (bytes : List ℕ) × Consumes (g.I.Intake.left l.fn.device) (g.I.Intake.left l.device) bytes;
}

abbrev pub decreases-reads : goal.decreases-reads
decreases-reads g l = g.I.Intake.reads_left l.device
