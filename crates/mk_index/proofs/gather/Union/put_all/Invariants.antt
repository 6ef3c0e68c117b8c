use Rattle.std.proofs.Common.{◌+◌, ◌-◌, length, map}
use Rattle.mk_index.specs.Gather.{IsUnited}
use Rattle.mk_index.proofs.gather.Union.put_all.Given as goal

abbrev pub invariant-loop-step : goal.invariant-loop-step
invariant-loop-step l = IsUnited (map (λ path. path.now) l.first) (map (λ path. path.now) l.second)
    (map (λ path. path.now) l.self.paths.items) l.self.firsts.items l.self.seconds.items

abbrev pub decreases-loop-step : goal.decreases-loop-step
decreases-loop-step l = (length l.first + length l.second) - (length l.self.firsts.items + length l.self.seconds.items)
