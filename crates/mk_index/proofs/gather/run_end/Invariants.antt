use Rattle.std.proofs.Common.{◌≤◌, ◌<◌, ◌-◌, Less, length, map}
use Rattle.mk_index.specs.Gather.{IsStep}
use Rattle.mk_index.proofs.gather.run_end.Given as goal

abbrev pub invariant-loop-leap : goal.invariant-loop-leap
invariant-loop-leap l = record {
  more : l.from < l.end;
  within : l.end ≤ length l.paths;
  some : 0 < l.leap;
  last : IsStep (map (λ path. path.now) l.paths) (map (λ path. path.now) l.others) (l.end - 1) l.at Less;
}

abbrev pub decreases-loop-leap : goal.decreases-loop-leap
decreases-loop-leap l = length l.paths - l.end
