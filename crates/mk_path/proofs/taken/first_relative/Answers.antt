use Rattle.std.proofs.Common.{◌||◌, ◌++◌, Bool, List, [], ◌∷◌, None, Some, map, min, not, sym, ap, ◌∙◌}
use Rattle.mk_name.specs.Names.{Name}
use Rattle.mk_path.specs.Ranges.{first_place, is_between}
use Rattle.mk_path.proofs.RangePlaces.{first_alike, first_either}
use Rattle.mk_path.proofs.RangeTests.{between_relative}
use Rattle.mk_path.proofs.taken.first_relative.Goals as goal
use Rattle.mk_text.specs.Spelling.{is_absolute}

pub returns : goal.returns
returns c =
    let own = c.args.own.now in
    let names : List Name = map (λ name. name.now) c.args.names.now in
    let none = c.as_slice-none.result.now in
    let slash = c.as_slice.result.now in
    let next = c.as_slice-2.result.now in
    let lower : Name → Bool = is_between (none ++ none) (Some (none ++ slash)) in
    let upper : Name → Bool = is_between (none ++ next) None in
    c.min.ensures ∙ ap (λ n. min n c.first_between-upper.result) c.first_between-lower.ensures ∙ ap (min (first_place lower own names)) c.first_between-upper.ensures
    ∙ sym (first_either own names lower upper)
    ∙ first_alike own names (λ x. lower x || upper x) (λ x. not (is_absolute x)) (λ x.
    ap (λ b. is_between (b ++ b) (Some (b ++ slash)) x || is_between (b ++ next) None x) c.as_slice-none.ensures
    ∙ ap (λ b. is_between [] (Some b) x || is_between next None x) c.as_slice.ensures
    ∙ ap (λ b. is_between [] (Some (47 ∷ [])) x || is_between b None x) c.as_slice-2.ensures
    ∙ between_relative x)
