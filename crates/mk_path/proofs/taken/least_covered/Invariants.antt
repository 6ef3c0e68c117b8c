use Rattle.std.proofs.Common.{◌≡◌, map, take}
use Rattle.mk_path.specs.Ranges.{first_place}
use Rattle.mk_path.specs.Paths.{covered}
use Rattle.mk_path.proofs.taken.least_covered.Given as goal

abbrev pub invariant-loop-path : goal.invariant-loop-path
invariant-loop-path l = l.place ≡ first_place (covered l.root (take l.path-index l.paths)) l.own (map (λ name. name.now) l.names)
