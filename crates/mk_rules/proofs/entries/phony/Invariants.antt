use Rattle.std.proofs.Common.{◌≡◌, codes}
use Rattle.mk_rules.specs.Book.{names_target}
use Rattle.mk_rules.proofs.Taken.{names_so_far}
use Rattle.mk_rules.proofs.entries.phony.Given as goal

-- the prerequisites of the entries so far are taken in
abbrev pub invariant-loop-entry : goal.invariant-loop-entry
invariant-loop-entry l = l.names.keys ≡ names_so_far (names_target (codes ".PHONY")) (λ e. e.prerequisites) l.entries l.entry-index
