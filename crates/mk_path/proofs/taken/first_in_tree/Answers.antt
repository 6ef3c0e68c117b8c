use Rattle.std.proofs.Common.{◌&&◌, ◌||◌, Bool, List, codes, map, min, not, sym, ap, ◌∙◌}
use Rattle.mk_name.specs.Names.{Name, same_name}
use Rattle.mk_path.specs.Ranges.{first_place, is_inside, is_over_names}
use Rattle.mk_path.proofs.RangePlaces.{first_either}
use Rattle.mk_path.proofs.taken.first_in_tree.Goals as goal
use Rattle.mk_text.specs.Spelling.{is_absolute, top_of}

pub returns : goal.returns
returns c =
    let own = c.args.own.now in
    let names : List Name = map (λ name. name.now) c.args.names.now in
    let t = c.args.tree.now in
    let inside : Name → Bool = is_inside t in
    let absolute : Name → Bool = λ x. same_name t (codes "/") && is_absolute x in
    let outer : Name → Bool = λ x. is_over_names (top_of c.args.root.now) t && not (is_absolute x) in
    let spelled = c.min-spelled.ensures ∙ ap (λ n. min n c.first_inside.result) c.first_named.ensures
    ∙ ap (min (first_place (same_name t) own names)) c.first_inside.ensures ∙ sym (first_either own names (same_name t) inside) in
    let others = c.min-other.ensures ∙ ap (λ n. min n c.first_outer.result) c.first_absolute.ensures
    ∙ ap (min (first_place absolute own names)) c.first_outer.ensures ∙ sym (first_either own names absolute outer) in
    c.min.ensures ∙ ap (λ n. min n c.min-other.result) spelled ∙ ap (min (first_place (λ x. same_name t x || inside x) own names)) others
    ∙ sym (first_either own names (λ x. same_name t x || inside x) (λ x. absolute x || outer x))
