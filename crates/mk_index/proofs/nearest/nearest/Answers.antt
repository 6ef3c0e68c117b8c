use Rattle.std.proofs.Common.{map, subst, sym, ◌∙◌}
use Rattle.std.proofs.lemmas.Bool.{eqb-true}
use Rattle.mk_name.specs.Names.{Name}
use Rattle.mk_index.specs.Nearest.{FindsTree, IsInner, IsOverName, IsOverPath}
use Rattle.mk_path.proofs.Numbering.{behind}
use Rattle.mk_index.proofs.Finding.{none_there, path_first, path_second}
use Rattle.mk_text.specs.Spelling.{top_of}
use Rattle.mk_index.proofs.nearest.nearest.Goals as goal

pub returns-then-is_empty : goal.returns-then-is_empty
returns-then-is_empty c = λ root outside inner. none_there root c.args.paths.now c.args.trees.now (IsOverPath root c.args.path.now) c.requires (eqb-true _ _ (sym c.is_empty.ensures ∙ c.if-is_empty.true))

pub returns-in-Some : goal.returns-in-Some
returns-in-Some c = λ root outside inner. path_first root (map behind c.args.paths.now) c.args.path.now c.in-Some.u (c.in-Some.ensures root)

pub returns-in-None : goal.returns-in-None
returns-in-None c =
    λ root outside inner. path_second root (map behind c.args.paths.now) c.args.path.now c.over_name.result (c.in-None.ensures root)
    (subst (λ (x : Name). FindsTree root (map behind c.args.paths.now) (IsOverName (top_of root) x) c.over_name.result) c.as_bytes.ensures
    (c.over_name.ensures root outside (subst (λ (x : Name). FindsTree root (map behind c.args.paths.now) (IsInner x) c.args.inner) (sym c.as_bytes.ensures) inner)))
