use Rattle.std.proofs.Common.{rules, ◌++◌}
use Rattle.std.proofs.lemmas.List.Sorted.{IsPartitionPoint-from_clause}
use Rattle.mk_path.specs.Ranges.{is_before}
use Rattle.mk_path.proofs.RangePlaces.{before_parts, from_point}
use Rattle.mk_path.proofs.taken.first_from.Goals as goal

pub returns : goal.returns
returns c =
    let names = c.args.names.now in
    let bound = c.args.head.now ++ c.args.tail.now in
    let within = c.partition_point.ensures.bound in
    let point = IsPartitionPoint-from_clause (λ y. is_before bound y.now) names c.partition_point.result c.partition_point.ensures.partitioned
    (before_parts (λ y. y.now) names bound c.requires) (λ a r f called. search rules) in
    let parts = from_point (λ y. y.now) names bound c.partition_point.result c.args.head within point in
    record { bound = within; before = parts.0; after = parts.1 }
