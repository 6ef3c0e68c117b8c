use Rattle.std.proofs.Common.{◌≡◌, false, drop, get_or}
use Rattle.std.specs.Prelude.{find}
use Rattle.mk_due.specs.Awaited.{is_early}
use Rattle.mk_due.specs.Items.{nodes_of}
use Rattle.mk_due.proofs.early.early_of.Given as goal

-- the first of the files that are left is the first of all
abbrev pub invariant-loop-name : goal.invariant-loop-name
invariant-loop-name l = find (is_early (nodes_of l.items) (λ n. get_or l.marks n false)) (drop l.name-index l.needs) ≡ find (is_early (nodes_of l.items) (λ n. get_or l.marks n false)) l.needs
