use Rattle.std.proofs.Common.{List, [], map, subst, ap, ◌∙◌}
use Rattle.mk_path.specs.declared.path.Path.{Path}
use Rattle.mk_index.specs.Gather.{IsUnion}
use Rattle.mk_path.proofs.Numbering.{behind}
use Rattle.mk_index.proofs.Uniting.{gathered_alone, rise_none}
use Rattle.mk_index.proofs.gather.alone.Goals as goal

pub unite-requires-clause-second : goal.unite-requires-clause-second
unite-requires-clause-second c = rise_none

pub returns : goal.returns
returns c =
    let union = c.in_ok-union.union in
    let ps = map behind union.paths.items in
    gathered_alone c.args.row.now ps union.firsts.items union.seconds.items
    (subst (λ (row : List Path). IsUnion row [] ps union.firsts.items union.seconds.items) (ap (map behind) c.deref.ensures.value ∙ c.in_ok-paths.ensures) c.in_ok-union.ensures)
