use Rattle.std.proofs.Common.{◌++◌, List, [], ◌∷◌, Some, map, ap, ◌∙◌}
use Rattle.mk_name.specs.Names.{Name}
use Rattle.mk_path.specs.Ranges.{goes_on, is_between}
use Rattle.mk_path.proofs.RangePlaces.{first_alike}
use Rattle.mk_path.proofs.RangeTests.{between_going_on}
use Rattle.mk_path.proofs.taken.first_going_on.Goals as goal

pub returns : goal.returns
returns c =
    let names : List Name = map (λ name. name.now) c.args.names.now in
    let t = c.args.text.now in
    let low = c.as_slice.result.now in
    let high = c.as_slice-2.result.now in
    c.first_between.ensures ∙ first_alike c.args.own.now names (is_between (t ++ low) (Some (t ++ high))) (goes_on t) (λ x.
    ap (λ b. is_between (t ++ b) (Some (t ++ high)) x) c.as_slice.ensures ∙ ap (λ b. is_between (t ++ 47 ∷ []) (Some (t ++ b)) x) c.as_slice-2.ensures ∙ between_going_on t x)
