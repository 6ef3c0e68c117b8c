use Rattle.std.proofs.Common.{◌≡◌, ℕ, false, drop, get_or}
use Rattle.std.specs.Prelude.{◌||◌, nat_eq}
use Rattle.mk_name.specs.Names.{has}
use Rattle.mk_due.proofs.early.mark.Given as goal

-- the marks so far, with the nodes that are left, are all of them
abbrev pub invariant-loop-n : goal.invariant-loop-n
invariant-loop-n l = (k : ℕ) → (get_or l.marks k false || has nat_eq (drop l.n-index l.nodes) k) ≡ (get_or l.initial.marks k false || has nat_eq l.nodes k)
