use Rattle.std.proofs.Common.{◌<◌, ◌+◌, IfSome}
use Rattle.std.specs.Option.{option_map_or}
use Rattle.mk_index.specs.Ups.{IsUpOf, number_count, rank_at}
use Rattle.mk_index.proofs.Meeting.{HasPassed}
use Rattle.mk_index.proofs.meets.is_met.Given as goal

abbrev pub invariant-loop-next : goal.invariant-loop-next
invariant-loop-next l = record {
  passed : HasPassed l.ups l.theirs l.fn.first l.next;
  within : IfSome l.next (λ t. t < number_count l.ups);
  seen : IfSome l.seen (λ s. IsUpOf l.ups s l.fn.last);
  seen_within : IfSome l.seen (λ s. s < number_count l.ups);
}

-- the rank falls
abbrev pub decreases-loop-next : goal.decreases-loop-next
decreases-loop-next l = option_map_or (λ t. rank_at l.ups t + 1) l.next 0
