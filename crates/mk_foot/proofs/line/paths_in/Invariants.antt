use Rattle.std.proofs.Common.{◌≡◌, drop}
use Rattle.mk_json.specs.Documents.{items_in}
use Rattle.mk_foot.specs.Lines as spec
use Rattle.mk_foot.proofs.LineLemmas.{paths_with}
use Rattle.mk_foot.proofs.line.paths_in.Given as goal

-- the paths so far, before those of the values that are left, are all of them
abbrev pub invariant-loop-value : goal.invariant-loop-value
invariant-loop-value l = paths_with l.root l.paths.items (items_in (drop l.value-index l.values)) ≡ spec.paths_in l.root (items_in l.values)
