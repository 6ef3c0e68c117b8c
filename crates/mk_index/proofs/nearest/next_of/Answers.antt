use Rattle.std.proofs.Common.{map, refl, sym, ap, subst, inl, ◌∙◌, None}
use Rattle.mk_path.specs.declared.path.Path.{Path}
use Rattle.mk_index.specs.Nearest.{FindsTree, IsInner, IsOverPath}
use Rattle.mk_path.proofs.Numbering.{behind, behind_at}
use Rattle.mk_index.proofs.nearest.next_of.Goals as goal

pub returns-in-None : goal.returns-in-None
returns-in-None c =
    let paths = map behind c.args.paths.now in
    let at = ap behind c.index-paths-t.is ∙ sym (behind_at c.args.paths.now c.args.t c.index-paths-t.result c.requires.within) in
    λ root outside inner. inl (
      refl,
      subst (λ (p : Path). FindsTree root paths (IsOverPath root p) None) at
          (c.in-None.ensures root outside (subst (λ (p : Path). FindsTree root paths (IsInner p.name) c.args.inner) (sym at) inner)),
    )
