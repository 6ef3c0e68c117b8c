use Rattle.std.proofs.Common.{◌≡◌, false, ◌-◌, ◌≤◌, length, take}
use Rattle.std.specs.Io.KnownBytes.{Appends}
use Rattle.mk_device.proofs.device.write_all.Given as goal

-- so many of the bytes were written
abbrev pub invariant-writes : goal.invariant-writes
invariant-writes g l = record {
  works : g.O.Outlet.has_failed l.device ≡ false;
  within : l.taken ≤ length l.bytes;
  front : Appends (g.O.Outlet.written l.fn.device) (g.O.Outlet.written l.device) (take l.taken l.bytes);
}

abbrev pub decreases-writes : goal.decreases-writes
decreases-writes g l = length l.bytes - l.taken
