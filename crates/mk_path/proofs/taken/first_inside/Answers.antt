use Rattle.std.proofs.Common.{List, map, sym, ◌∙◌}
use Rattle.std.proofs.lemmas.List.{length-map}
use Rattle.mk_name.specs.Names.{Name}
use Rattle.mk_path.specs.Ranges.{is_inside}
use Rattle.mk_path.proofs.RangePlaces.{first_nowhere}
use Rattle.mk_path.proofs.RangeTests.{nothing_inside}
use Rattle.mk_path.proofs.taken.first_inside.Goals as goal

pub returns-then-is_empty : goal.returns-then-is_empty
returns-then-is_empty c =
    let names : List Name = map (λ name. name.now) c.args.names.now in
    sym (first_nowhere c.args.own.now names (is_inside c.args.tree.now) (nothing_inside c.args.tree.now (sym c.is_empty.ensures ∙ c.if-is_empty.true)) ∙ length-map c.args.names.now (λ name. name.now))
