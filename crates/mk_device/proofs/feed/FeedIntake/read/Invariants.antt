use Rattle.std.proofs.Common.{◌≡◌, false, ◌≤◌}
use Rattle.std.specs.Io.KnownBytes.{Keeps}
use Rattle.mk_device.proofs.feed.FeedIntake.read.Given as goal

-- reads that were interrupted took nothing
abbrev pub invariant-tries : goal.invariant-tries
invariant-tries g l = record {
  works : l.self-inside.failed ≡ false;
  kept : Keeps l.fn.self.left (g.R.Read.remaining l.self-inside.reader);
  fewer : l.self-inside.reads ≤ l.fn.self.reads;
}

abbrev pub decreases-tries : goal.decreases-tries
decreases-tries g l = l.self-inside.reads
