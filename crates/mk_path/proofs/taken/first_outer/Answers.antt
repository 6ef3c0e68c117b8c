use Rattle.std.proofs.Common.{◌&&◌, List, map, not, sym, ◌∙◌}
use Rattle.std.proofs.lemmas.Bool.{and_left}
use Rattle.std.proofs.lemmas.List.{length-map}
use Rattle.mk_name.specs.Names.{Name}
use Rattle.mk_path.specs.Ranges.{is_over_names}
use Rattle.mk_path.proofs.RangePlaces.{first_nowhere}
use Rattle.mk_path.proofs.taken.first_outer.Goals as goal
use Rattle.mk_text.specs.Spelling.{is_absolute, top_of}

pub returns-else-is_over_names : goal.returns-else-is_over_names
returns-else-is_over_names c =
    let names : List Name = map (λ name. name.now) c.args.names.now in
    let over = is_over_names (top_of c.args.root.now) c.args.tree.now in
    sym (first_nowhere c.args.own.now names (λ x. over && not (is_absolute x)) (λ x. and_left over (not (is_absolute x)) (sym c.is_over_names.ensures ∙ c.if-is_over_names.false))
    ∙ length-map c.args.names.now (λ name. name.now))
