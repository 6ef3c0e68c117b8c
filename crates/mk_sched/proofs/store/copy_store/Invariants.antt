use Rattle.std.proofs.Common.{◌≡◌, ◌++◌}
use Rattle.mk_sched.proofs.store.copy_store.Given as goal

-- what is copied, and then what is left
abbrev pub invariant-loop-name : goal.invariant-loop-name
invariant-loop-name l = l.copy ++ l.name-iterator ≡ l.store
