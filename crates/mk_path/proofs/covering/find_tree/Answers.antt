use Rattle.std.proofs.Common.{rules, ◌+◌, ◌-◌, drop, length, take}
use Rattle.std.proofs.lemmas.Fn.{always_returns_same}
use Rattle.std.proofs.lemmas.List.{take_rest}
use Rattle.mk_path.specs.Covering.{tree_at}
use Rattle.mk_path.specs.Paths.{path_cmp}
use Rattle.mk_path.proofs.Between.{has_not, missed}
use Rattle.mk_path.proofs.Leaps.{found_in_part, missed_in_part}
use Rattle.mk_path.proofs.covering.find_tree.Goals as goal

pub returns-in-Ok-clause-found : goal.returns-in-Ok-clause-found
returns-in-Ok-clause-found c =
    let found = c.in-Ok.ensures.position (λ y. path_cmp y (tree_at c.args.name.now)) (always_returns_same _ _ _ (λ a r f called. search rules)) in
    let paths = c.args.paths.now in
    let low = c.leap_back-low.result in
    found_in_part paths c.args.name.now low (take (length paths - low) (drop low paths))
    c.requires c.leap_back-low.ensures.within (take_rest paths low) c.in-Ok.field-0 c.in-Ok.ensures.bound found

pub miss_at-requires-clause-before : goal.miss_at-requires-clause-before
miss_at-requires-clause-before c =
    let found = c.in-Err.ensures.position (λ y. path_cmp y (tree_at c.args.name.now)) (always_returns_same _ _ _ (λ a r f called. search rules)) in
    let paths = c.args.paths.now in
    let low = c.leap_back-low.result in
    let miss = missed_in_part paths c.args.name.now low (take (length paths - low) (drop low paths))
    c.requires c.leap_back-low.ensures.within (take_rest paths low) c.leap_back-low.ensures.before c.in-Err.place c.in-Err.ensures.bound found in
    miss.before

pub miss_at-requires-clause-after : goal.miss_at-requires-clause-after
miss_at-requires-clause-after c =
    let found = c.in-Err.ensures.position (λ y. path_cmp y (tree_at c.args.name.now)) (always_returns_same _ _ _ (λ a r f called. search rules)) in
    let paths = c.args.paths.now in
    let low = c.leap_back-low.result in
    let miss = missed_in_part paths c.args.name.now low (take (length paths - low) (drop low paths))
    c.requires c.leap_back-low.ensures.within (take_rest paths low) c.leap_back-low.ensures.before c.in-Err.place c.in-Err.ensures.bound found in
    miss.after

pub returns-in-Err-clause-missed : goal.returns-in-Err-clause-missed
returns-in-Err-clause-missed c =
    let paths = c.args.paths.now in
    let name = c.args.name.now in
    let found = c.in-Err.ensures.position (λ y. path_cmp y (tree_at name)) (always_returns_same _ _ _ (λ a r f called. search rules)) in
    let low = c.leap_back-low.result in
    let miss = missed_in_part paths name low (take (length paths - low) (drop low paths))
    c.requires c.leap_back-low.ensures.within (take_rest paths low) c.leap_back-low.ensures.before c.in-Err.place c.in-Err.ensures.bound found in
    has_not paths (tree_at name) (missed paths c.requires name (low + c.in-Err.place) miss)
