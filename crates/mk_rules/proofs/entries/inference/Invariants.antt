use Rattle.std.proofs.Common.{◌≡◌}
use Rattle.mk_rules.specs.Book.{is_inference_rule}
use Rattle.mk_rules.proofs.Taken.{names_so_far}
use Rattle.mk_rules.proofs.entries.inference.Given as goal

-- the names of the inference rules so far are taken in
abbrev pub invariant-loop-entry : goal.invariant-loop-entry
invariant-loop-entry l = l.names.keys ≡ names_so_far (is_inference_rule l.suffixes.keys) (λ e. e.targets) l.entries l.entry-index
