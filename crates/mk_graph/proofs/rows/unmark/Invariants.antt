use Rattle.std.proofs.Common.{◌≡◌, ◌<◌, ℕ, drop, nat_eq, true, false, get_or, length}
use Rattle.mk_name.specs.Names.{has}
use Rattle.mk_graph.proofs.rows.unmark.Given as goal

-- what is marked still stands in the rest of the row
abbrev pub invariant-loop-number : goal.invariant-loop-number
invariant-loop-number l = (n : ℕ) → n < length l.seen → get_or l.seen n false ≡ true → has nat_eq (drop l.number-index l.row) n ≡ true
