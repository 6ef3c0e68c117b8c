use Rattle.std.proofs.Common.{◌≡◌, ℕ, false, get_or, length}
use Rattle.mk_due.specs.Awaited.{with_needs}
use Rattle.mk_due.specs.Items.{nodes_of}
use Rattle.mk_due.proofs.early.mark_behind.Given as goal

-- the marks so far, with what the nodes that are left bring, are all of them
abbrev pub invariant-loop-n : goal.invariant-loop-n
invariant-loop-n l = (k : ℕ) → with_needs (nodes_of l.items) l.n (λ p. get_or l.marks p false) k
    ≡ with_needs (nodes_of l.items) (length l.items) (λ p. get_or l.initial.marks p false) k
