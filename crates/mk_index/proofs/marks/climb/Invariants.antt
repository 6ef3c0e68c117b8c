use Rattle.std.proofs.Common.{◌<◌, ◌+◌, IfSome}
use Rattle.std.specs.Option.{option_map_or}
use Rattle.mk_index.specs.Ups.{IsUpOf, number_count, rank_at}
use Rattle.mk_index.proofs.Marking.{HasClimbed}
use Rattle.mk_index.proofs.marks.climb.Given as goal

abbrev pub invariant-loop-next : goal.invariant-loop-next
invariant-loop-next l = record {
  climbed : HasClimbed l.ups l.holders l.first l.fn.last l.next l.fn.row l.row;
  within : IfSome l.next (λ t. t < number_count l.ups);
  seen : IfSome l.seen (λ s. IsUpOf l.ups s l.fn.last);
  seen_within : IfSome l.seen (λ s. s < number_count l.ups);
}

-- the rank falls
abbrev pub decreases-loop-next : goal.decreases-loop-next
decreases-loop-next l = option_map_or (λ t. rank_at l.ups t + 1) l.next 0
