use Rattle.std.proofs.Common.{◌≡◌, map, take}
use Rattle.mk_fix.proofs.added.uses_of.Given as goal

-- the rows so far are there
abbrev pub invariant-loop-n : goal.invariant-loop-n
invariant-loop-n l = record {
  reads : map (λ row. row.items) l.reads.items ≡ take l.n l.jobs.reads;
  writes : map (λ row. row.items) l.writes.items ≡ take l.n l.jobs.writes;
}
