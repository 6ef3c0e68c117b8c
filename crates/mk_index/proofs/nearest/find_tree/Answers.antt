use Rattle.std.proofs.Common.{rules, ◌-◌, map, refl, sym, ap, ◌∙◌, arith}
use Rattle.std.proofs.lemmas.Fn.{always_returns_same}
use Rattle.mk_path.specs.declared.path.Path.{Path}
use Rattle.mk_path.specs.Covering.{tree_at}
use Rattle.mk_path.specs.Paths.{path_cmp}
use Rattle.mk_path.proofs.Between.{bound_from, no_bound}
use Rattle.mk_index.proofs.Finding.{found_one, longer_missed, tree_found, tree_missed, tree_there}
use Rattle.mk_path.proofs.Numbering.{behind, behind_at}
use Rattle.mk_index.proofs.nearest.find_tree.Goals as goal

pub number-requires-clause-there : goal.number-requires-clause-there
number-requires-clause-there c =
    tree_there c.args.paths.now c.args.trees.now c.in-Ok.place c.index-trees-place.result c.requires.trees_are c.in-Ok.ensures.bound c.index-trees-place.is

pub returns-in-Ok-clause-found : goal.returns-in-Ok-clause-found
returns-in-Ok-clause-found c =
    let name = c.args.name.now in
    let tree = c.index-trees-place.result in
    let found = c.in-Ok.ensures.position (λ y. path_cmp y.now (tree_at name)) (always_returns_same _ _ _ (λ a r f called. search rules)) tree in
    λ root. found_one root (map behind c.args.paths.now) c.number.result name
    (tree_found c.args.paths.now c.args.trees.now c.in-Ok.place c.number.result tree name c.number.ensures.within c.number.ensures.is c.index-trees-place.is found)

pub returns-in-Err-eq0-clause-missed : goal.returns-in-Err-eq0-clause-missed
returns-in-Err-eq0-clause-missed c =
    let name = c.args.name.now in
    let found = c.in-Err-eq0.ensures.position (λ y. path_cmp y.now (tree_at name)) (always_returns_same _ _ _ (λ a r f called. search rules)) in
    λ v tree. tree_missed c.args.paths.now c.args.trees.now c.in-Err-eq0.field-0 v name name c.requires c.in-Err-eq0.ensures.bound found refl tree

pub returns-in-Err-eq0-clause-bound : goal.returns-in-Err-eq0-clause-bound
returns-in-Err-eq0-clause-bound c =
    let name = c.args.name.now in
    let place = c.in-Err-eq0.field-0 in
    let found = c.in-Err-eq0.ensures.position (λ y. path_cmp y.now (tree_at name)) (always_returns_same _ _ _ (λ a r f called. search rules)) in
    let bound = no_bound (map behind c.args.trees.now) name place 0 c.in-Err-eq0.field-0-test in
    λ v k more within tree. longer_missed c.args.paths.now c.args.trees.now place v 0 k name c.requires c.in-Err-eq0.ensures.bound found bound more within tree

pub returns-in-Err-clause-missed : goal.returns-in-Err-clause-missed
returns-in-Err-clause-missed c =
    let name = c.args.name.now in
    let found = c.in-Err.ensures.position (λ y. path_cmp y.now (tree_at name)) (always_returns_same _ _ _ (λ a r f called. search rules)) in
    λ v tree. tree_missed c.args.paths.now c.args.trees.now c.in-Err.place v name name c.requires c.in-Err.ensures.bound found refl tree

pub returns-in-Err-clause-bound : goal.returns-in-Err-clause-bound
returns-in-Err-clause-bound c =
    let name = c.args.name.now in
    let trees = c.args.trees.now in
    let place = c.in-Err.place in
    let before = c.index-trees-place-in-Err.result in
    let found = c.in-Err.ensures.position (λ y. path_cmp y.now (tree_at name)) (always_returns_same _ _ _ (λ a r f called. search rules)) in
    let bound = bound_from (map behind trees) name place c.common.result c.as_bytes.result.now
    (λ some. ap (λ (p : Path). p.name) (behind_at trees (place - 1) before (omega (arith, some, c.in-Err.ensures.bound))) ∙ sym c.as_bytes.ensures) c.common.ensures.longest in
    λ v k more within tree. longer_missed c.args.paths.now trees place v c.common.result k name c.requires c.in-Err.ensures.bound found bound more within tree
