use Rattle.std.proofs.Common.{◌&&◌, List, codes, map, sym, ap, ◌∙◌}
use Rattle.std.proofs.lemmas.Bool.{and_left}
use Rattle.std.proofs.lemmas.List.{length-map}
use Rattle.mk_name.specs.Names.{Name, same_name}
use Rattle.mk_path.proofs.RangePlaces.{first_nowhere}
use Rattle.mk_path.proofs.taken.first_absolute.Goals as goal
use Rattle.mk_text.specs.Spelling.{is_absolute}

pub returns-else-eq : goal.returns-else-eq
returns-else-eq c =
    let names : List Name = map (λ name. name.now) c.args.names.now in
    let other = ap (same_name c.args.tree.now) (sym c.as_slice.ensures) ∙ sym c.eq.ensures ∙ c.if-eq.false in
    sym (first_nowhere c.args.own.now names (λ x. same_name c.args.tree.now (codes "/") && is_absolute x) (λ x. and_left (same_name c.args.tree.now (codes "/")) (is_absolute x) other)
    ∙ length-map c.args.names.now (λ name. name.now))
