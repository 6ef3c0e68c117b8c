use Rattle.std.proofs.Common.{◌≡◌, ◌≤◌, ◌-◌, map, take}
use Rattle.mk_graph.specs.Looked.{looked_of}
use Rattle.mk_graph.specs.Collected.{Collected}
use Rattle.mk_graph.proofs.collect.collect_by.Given as goal

abbrev pub invariant-all : goal.invariant-all
invariant-all l = record {
  collected : Collected l.book l.listing l.goals l.names l.entries.items l.sources.items l.starts.items l.read;
  few : l.read ≤ l.limit;
  looked : l.looked.items ≡ map (looked_of l.book l.listing) (take l.read l.names);
}

abbrev pub decreases-all : goal.decreases-all
decreases-all l = l.limit - l.read
