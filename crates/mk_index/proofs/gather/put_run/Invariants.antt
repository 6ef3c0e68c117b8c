use Rattle.std.proofs.Common.{◌≡◌, ◌<◌, ◌++◌, length, map, take}
use Rattle.mk_index.specs.Gather.{upwards}
use Rattle.mk_index.specs.Places.{number_limit}
use Rattle.mk_index.proofs.gather.put_run.Given as goal

abbrev pub invariant-loop-path : goal.invariant-loop-path
invariant-loop-path l = record {
  paths : map (λ path. path.now) l.paths.items ≡ map (λ path. path.now) l.initial.paths.items ++ map (λ path. path.now) (take l.path-index l.run);
  few : length l.paths.items < number_limit;
  numbers : l.numbers.items ≡ l.initial.numbers.items ++ upwards (length l.initial.paths.items) l.path-index;
}
