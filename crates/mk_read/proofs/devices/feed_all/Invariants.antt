use Rattle.std.proofs.Common.{◌≡◌, ◌++◌, false, List, ℕ}
use Rattle.std.specs.Io.KnownBytes.{Consumes}
use Rattle.mk_read.proofs.devices.feed_all.Given as goal

-- what the reader has read more is what the device gave
abbrev pub invariant-reads : goal.invariant-reads
invariant-reads g l = record {
  works : g.I.Intake.has_failed l.device ≡ false;
  same : g.I.Intake.readable l.device ≡ g.I.Intake.readable l.fn.device;
  fed : (bytes : List ℕ) × Consumes (g.I.Intake.left l.fn.device) (g.I.Intake.left l.device) bytes
      × ((root text : List ℕ) → g.R.LineReader.has_read l.fn.reader root text → g.R.LineReader.has_read l.reader root (text ++ bytes));
}

abbrev pub decreases-reads : goal.decreases-reads
decreases-reads g l = g.I.Intake.reads_left l.device
