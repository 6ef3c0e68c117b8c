use Rattle.std.proofs.Common.{rules, ◌≡◌}
use Rattle.std.specs.Cmp.Lexicographic.{slice_cmp}
use Rattle.std.specs.Ordering.{nat_cmp}
use Rattle.mk_foot.proofs.OwnedNames.{lent_rise}
use Rattle.mk_foot.proofs.owned.in_order.Goals as goal

pub returns-clause-rising : goal.returns-clause-rising
returns-clause-rising c =
    let is : c.loop-name.list.items ≡ c.args.names.now.keys = search rules in
    rw is (lent_rise (λ name. name.now) (slice_cmp nat_cmp) c.args.names.now.keys c.len.ensures.ordered)
