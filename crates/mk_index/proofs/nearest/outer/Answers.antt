use Rattle.std.proofs.Common.{map, Some, None, subst, ◌∙◌, sym}
use Rattle.mk_name.specs.Names.{Name}
use Rattle.mk_index.specs.Nearest.{FindsTree, IsOther}
use Rattle.mk_path.proofs.Numbering.{behind}
use Rattle.mk_index.proofs.Finding.{outer_absolute, outer_first, outer_second}
use Rattle.mk_index.proofs.nearest.outer.Goals as goal

pub returns-then-is_absolute : goal.returns-then-is_absolute
returns-then-is_absolute c =
    let paths = map behind c.args.paths.now in
    let name = c.args.name.now in
    λ root outside. outer_absolute root paths name c.other_tree.result (sym c.is_absolute.ensures ∙ c.if-is_absolute.true)
    (subst (λ (slash : Name). FindsTree root paths (IsOther name slash) c.other_tree.result) c.as_slice.ensures (c.other_tree.ensures root))

pub returns-in-Some : goal.returns-in-Some
returns-in-Some c =
    let paths = map behind c.args.paths.now in
    let name = c.args.name.now in
    λ root outside. outer_first root paths name c.in-Some.u (sym c.is_absolute.ensures ∙ c.if-is_absolute.false)
    (subst (λ (dot : Name). FindsTree root paths (IsOther name dot) (Some c.in-Some.u)) c.as_slice-2.ensures (c.in-Some.ensures root))

pub returns-in-None : goal.returns-in-None
returns-in-None c =
    let paths = map behind c.args.paths.now in
    let name = c.args.name.now in
    λ root outside. outer_second root paths name c.args.outside (sym c.is_absolute.ensures ∙ c.if-is_absolute.false)
    (subst (λ (dot : Name). FindsTree root paths (IsOther name dot) None) c.as_slice-2.ensures (c.in-None.ensures root)) outside
