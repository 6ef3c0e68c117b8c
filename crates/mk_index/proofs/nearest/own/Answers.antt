use Rattle.std.proofs.Common.{map, ◌≡◌, ◌∙◌, sym}
use Rattle.mk_index.specs.Nearest.{IsOwn}
use Rattle.mk_path.proofs.Numbering.{behind}
use Rattle.mk_index.proofs.Finding.{alike}
use Rattle.mk_index.proofs.nearest.own.Goals as goal

pub returns-else-path : goal.returns-else-path
returns-else-path c =
    λ root. alike root (map behind c.args.paths.now) (λ y. y ≡ c.as_bytes.result.now) (IsOwn c.args.path.now) c.tree_of.result (c.tree_of.ensures root)
    (λ y is. (c.if-path.false, is ∙ c.as_bytes.ensures)) (λ y own. own.1 ∙ sym c.as_bytes.ensures)
