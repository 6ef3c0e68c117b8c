use Rattle.std.proofs.Common.{map, subst}
use Rattle.mk_index.specs.Nearest.{FindsTree, IsInner}
use Rattle.mk_path.proofs.Numbering.{behind}
use Rattle.mk_index.proofs.Finding.{over_name_first, over_name_second}
use Rattle.mk_index.proofs.nearest.over_name.Goals as goal

pub returns-in-Some : goal.returns-in-Some
returns-in-Some c =
    let paths = map behind c.args.paths.now in
    λ root outside inner. over_name_first root paths c.args.name.now c.in-Some.u (subst (FindsTree root paths (IsInner c.args.name.now)) c.in-Some.is inner)

pub returns-in-None : goal.returns-in-None
returns-in-None c =
    let paths = map behind c.args.paths.now in
    λ root outside inner. over_name_second root paths c.args.name.now c.outer.result (subst (FindsTree root paths (IsInner c.args.name.now)) c.in-None.is inner) (c.outer.ensures root outside)
