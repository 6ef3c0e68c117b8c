use Rattle.std.proofs.Common.{◌≡◌, ◌++◌, drop, option_map}
use Rattle.mk_json.specs.Documents.{items_in}
use Rattle.mk_task.specs.Lines as spec
use Rattle.mk_task.proofs.line.labels_in.Given as goal

-- the labels so far, before those of the values that are left, are all of them
abbrev pub invariant-loop-value : goal.invariant-loop-value
invariant-loop-value l = option_map (λ xs. l.labels.items ++ xs) (spec.labels_in (items_in (drop l.value-index l.values))) ≡ spec.labels_in (items_in l.values)
