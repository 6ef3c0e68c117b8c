use Rattle.std.proofs.Common.{ℕ, ◌<◌, ◌⊎◌}
use Rattle.mk_index.specs.Ups.{IsUp, IsUpOf, number_count, rank_at}
use Rattle.mk_index.proofs.ups.Ups.rise.Given as goal

abbrev pub invariant-loop-t : goal.invariant-loop-t
invariant-loop-t l = record {
  up : IsUpOf l.self l.t l.fn.from;
  within : l.t < number_count l.self;
  passed : (u : ℕ) → IsUpOf l.self u l.fn.from → IsUp l.self u l.t ⊎ (l.limit < rank_at l.self u);
}

-- the rank falls
abbrev pub decreases-loop-t : goal.decreases-loop-t
decreases-loop-t l = rank_at l.self l.t
