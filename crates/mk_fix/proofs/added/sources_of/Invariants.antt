use Rattle.std.proofs.Common.{ℕ, ◌≡◌, [], get_or, length, map, take}
use Rattle.mk_jobs.specs.Jobs.{node_count}
use Rattle.mk_fix.specs.Added.{sources_to}
use Rattle.mk_fix.proofs.added.sources_of.Given as goal

-- so many rows, all empty
abbrev pub invariant-loop-n : goal.invariant-loop-n
invariant-loop-n l = record {
  count : length l.rows.items ≡ l._n;
  none : (b : ℕ) → get_or (map (λ row. row.items) l.rows.items) b [] ≡ [];
}

-- each row has the sources by the edges so far
abbrev pub invariant-loop-first : goal.invariant-loop-first
invariant-loop-first l = record {
  count : length l.rows.items ≡ node_count l.jobs;
  rows : (b : ℕ) → get_or (map (λ row. row.items) l.rows.items) b [] ≡ sources_to (take l.first-index l.edges) b;
}
