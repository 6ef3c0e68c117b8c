use Rattle.std.proofs.Common.{map, subst}
use Rattle.mk_name.specs.Names.{Name}
use Rattle.mk_index.specs.Nearest.{FindsTree, IsOther}
use Rattle.mk_path.proofs.Numbering.{behind}
use Rattle.mk_index.proofs.Finding.{over_text_first, over_text_second}
use Rattle.mk_index.proofs.nearest.over_text.Goals as goal

pub returns-in-Some : goal.returns-in-Some
returns-in-Some c = λ root. over_text_first root (map behind c.args.paths.now) c.args.text.now c.in-Some.u c.requires.absolute (c.in-Some.ensures root)

pub returns-in-None : goal.returns-in-None
returns-in-None c =
    let paths = map behind c.args.paths.now in
    let text = c.args.text.now in
    λ root. over_text_second root paths text c.other_tree.result (c.in-None.ensures root)
    (subst (λ (slash : Name). FindsTree root paths (IsOther text slash) c.other_tree.result) c.as_slice.ensures (c.other_tree.ensures root))
