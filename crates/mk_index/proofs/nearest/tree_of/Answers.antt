use Rattle.std.proofs.Common.{rules, map}
use Rattle.std.proofs.lemmas.Fn.{always_returns_same}
use Rattle.mk_path.specs.Covering.{tree_at}
use Rattle.mk_path.specs.Paths.{path_cmp}
use Rattle.mk_path.proofs.Numbering.{behind}
use Rattle.mk_index.proofs.Finding.{found_one, tree_found, tree_missed, tree_there}
use Rattle.mk_index.proofs.nearest.tree_of.Goals as goal

pub number-requires-clause-there : goal.number-requires-clause-there
number-requires-clause-there c =
    tree_there c.args.paths.now c.args.trees.now c.in-Ok.place c.index-trees-place.result c.requires.trees_are c.in-Ok.ensures.bound c.index-trees-place.is

pub returns-in-Ok : goal.returns-in-Ok
returns-in-Ok c =
    let name = c.args.name.now in
    let tree = c.index-trees-place.result in
    let found = c.in-Ok.ensures.position (λ y. path_cmp y.now (tree_at name)) (always_returns_same _ _ _ (λ a r f called. search rules)) tree in
    λ root. found_one root (map behind c.args.paths.now) c.number.result name
    (tree_found c.args.paths.now c.args.trees.now c.in-Ok.place c.number.result tree name c.number.ensures.within c.number.ensures.is c.index-trees-place.is found)

pub returns-in-Err : goal.returns-in-Err
returns-in-Err c =
    let name = c.args.name.now in
    let found = c.in-Err.ensures.position (λ y. path_cmp y.now (tree_at name)) (always_returns_same _ _ _ (λ a r f called. search rules)) in
    λ root v y same tree. tree_missed c.args.paths.now c.args.trees.now _ v name y c.requires c.in-Err.ensures.bound found same tree
