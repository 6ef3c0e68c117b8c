use Rattle.std.proofs.Common.{◌<◌, ◌+◌, IfSome}
use Rattle.std.specs.Option.{option_map_or}
use Rattle.mk_index.specs.Ups.{number_count, rank_at}
use Rattle.mk_index.proofs.Gaining.{HasGained}
use Rattle.mk_index.proofs.over.holders_over.Given as goal

abbrev pub invariant-loop-next : goal.invariant-loop-next
invariant-loop-next l = record {
  gained : HasGained l.ups l.holders l.first l.next l.nodes.items;
  within : IfSome l.next (λ t. t < number_count l.ups);
}

-- the rank falls
abbrev pub decreases-loop-next : goal.decreases-loop-next
decreases-loop-next l = option_map_or (λ t. rank_at l.ups t + 1) l.next 0
