use Rattle.std.proofs.Common.{◌≡◌, ◌++◌, drop, option_map}
use Rattle.mk_json.specs.Documents.{items_in}
use Rattle.mk_due.specs.Lines as spec
use Rattle.mk_due.proofs.line.names_in.Given as goal

-- the names so far, before those of the values that are left, are all of them
abbrev pub invariant-loop-value : goal.invariant-loop-value
invariant-loop-value l = option_map (λ xs. l.names.items ++ xs) (spec.names_in l.root (items_in (drop l.value-index l.values))) ≡ spec.names_in l.root (items_in l.values)
