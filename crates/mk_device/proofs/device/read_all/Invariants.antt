use Rattle.std.proofs.Common.{◌≡◌, false}
use Rattle.std.specs.Io.KnownBytes.{Consumes}
use Rattle.mk_device.proofs.device.read_all.Given as goal

-- what was read is what the device had and has no more, and the same is stated of it
abbrev pub invariant-reads : goal.invariant-reads
invariant-reads g l = record {
  works : g.I.Intake.has_failed l.device ≡ false;
  same : g.I.Intake.readable l.device ≡ g.I.Intake.readable l.fn.device;
  bytes : Consumes (g.I.Intake.left l.fn.device) (g.I.Intake.left l.device) l.all.items;
}

abbrev pub decreases-reads : goal.decreases-reads
decreases-reads g l = g.I.Intake.reads_left l.device
