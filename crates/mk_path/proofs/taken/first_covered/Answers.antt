use Rattle.std.proofs.Common.{List, if◌then◌else◌, map, sym, ap, ◌∙◌}
use Rattle.mk_name.specs.Names.{Name, has, same_name}
use Rattle.mk_path.specs.Paths.{covers, folders}
use Rattle.mk_path.specs.Ranges.{in_tree}
use Rattle.mk_path.proofs.RangePlaces.{first_alike}
use Rattle.mk_path.proofs.RangeTests.{tree_ranges}
use Rattle.mk_path.proofs.taken.first_covered.Goals as goal
use Rattle.mk_text.specs.Spelling.{top_of}

pub returns-then-path : goal.returns-then-path
returns-then-path c =
    let root = c.args.root.now in
    let path = c.args.path.now in
    let names : List Name = map (λ name. name.now) c.args.names.now in
    c.first_in_tree.ensures ∙ first_alike c.args.own.now names (in_tree (top_of root) c.as_bytes-text.result.now) (covers root path) (λ x.
    ap (λ t. in_tree (top_of root) t x) c.as_bytes-text.ensures ∙ sym (tree_ranges root path.name x)
    ∙ ap (λ t. if t then has same_name (folders root x) path.name else same_name path.name x) (sym c.if-path.true))
