use Rattle.std.proofs.Common.{◌&&◌, sym, subst}
use Rattle.mk_graph.specs.Numbers.{IsLeast, in_set}
use Rattle.mk_graph.proofs.LeastNumbers.{found_least, least_same, turned}
use Rattle.mk_graph.proofs.numbers.first_common.Goals as goal

pub returns-then-len : goal.returns-then-len
returns-then-len c =
    subst (IsLeast (λ p. in_set c.args.one.now p && in_set c.args.other.now p)) (sym c.first_in.ensures)
    (found_least (in_set c.args.other.now) c.args.one.now.keys c.len.ensures.ordered)

pub returns-else-len : goal.returns-else-len
returns-else-len c =
    subst (IsLeast (λ p. in_set c.args.one.now p && in_set c.args.other.now p)) (sym c.first_in-else-len.ensures)
    (least_same _ _ (λ p. turned (in_set c.args.other.now p) (in_set c.args.one.now p)) _ (found_least (in_set c.args.one.now) c.args.other.now.keys c.len-2.ensures.ordered))
