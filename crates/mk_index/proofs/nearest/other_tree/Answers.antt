use Rattle.std.proofs.Common.{map, ◌≡◌, ap, ◌∙◌, sym}
use Rattle.std.proofs.lemmas.Bool.{both_ways}
use Rattle.mk_name.specs.Names.{same_name}
use Rattle.mk_name.proofs.Names.{name_is_exact}
use Rattle.mk_index.specs.Nearest.{IsOther}
use Rattle.mk_path.proofs.Numbering.{behind}
use Rattle.mk_index.proofs.Finding.{alike}
use Rattle.mk_index.proofs.nearest.other_tree.Goals as goal

pub returns-else-eq : goal.returns-else-eq
returns-else-eq c =
    let name = c.args.name.now in
    let folder = c.args.folder.now in
    λ root. alike root (map behind c.args.paths.now) (λ y. y ≡ folder) (IsOther name folder) c.tree_of.result (c.tree_of.ensures root)
    (λ y is. (λ same. both_ways (same_name name folder) (sym c.eq.ensures ∙ c.if-eq.false) (ap (λ z. same_name z folder) same ∙ name_is_exact.itself folder), is)) (λ y other. other.1)
