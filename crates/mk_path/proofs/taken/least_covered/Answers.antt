use Rattle.std.proofs.Common.{slice_get, not, ◌&&◌, ◌||◌, ◌+◌, List, [], get_or, map, min, take, refl, sym, ap, ◌∙◌}
use Rattle.std.specs.Option.{option_copied}
use Rattle.std.proofs.lemmas.List.{length-map, take_all}
use Rattle.std.proofs.lemmas.List.Folds.{find_at, list_any_more}
use Rattle.mk_name.specs.Names.{Name, same_name}
use Rattle.mk_path.specs.Paths.{covered, covers}
use Rattle.mk_path.specs.Ranges.{first_place}
use Rattle.mk_path.proofs.RangePlaces.{first_alike, first_either, first_nowhere, got}
use Rattle.mk_path.proofs.taken.least_covered.Goals as goal

pub loop-path-init : goal.loop-path-init
loop-path-init c =
    let names : List Name = map (λ name. name.now) c.args.names.now in
    sym (first_nowhere c.args.own.now names (covered c.args.root.now []) (λ _. refl) ∙ length-map c.args.names.now (λ name. name.now))

pub loop-path-preserved : goal.loop-path-preserved
loop-path-preserved c =
    let root = c.args.root.now in
    let own = c.args.own.now in
    let paths = c.args.paths.now in
    let names : List Name = map (λ name. name.now) c.args.names.now in
    let i = c.loop-path.path-index in
    let item = c.path-item.result in
    c.min-place.ensures ∙ ap (λ n. min n c.first_covered.result) c.loop-path.invariant
    ∙ ap (min (first_place (covered root (take i paths)) own names)) (c.first_covered.ensures ∙ ap (λ p. first_place (covers root p) own names) c.path-item.is)
    ∙ sym (first_either own names (covered root (take i paths)) (covers root (get_or paths i item)))
    ∙ first_alike own names (λ x. covered root (take i paths) x || covers root (get_or paths i item) x) (covered root (take (i + 1) paths))
    (λ x. sym (list_any_more (λ p. covers root p x) paths i item c.loop-path-test.true))

pub returns : goal.returns
returns c =
    let own = c.args.own.now in
    let covers_one = covered c.args.root.now in
    let paths = c.args.paths.now in
    let names : List Name = map (λ name. name.now) c.args.names.now in
    let place = c.loop-path.place in
    ap option_copied c.copied.ensures ∙ got (λ name. name.now) c.args.names.now place c.get.result c.get.ensures.lookup.3
    ∙ ap (slice_get names) (c.loop-path.invariant ∙ ap (λ ps. first_place (covers_one ps) own names) (take_all c.loop-path.path-index paths c.loop-path-test.false))
    ∙ sym (find_at (λ x. not (same_name own x) && covers_one paths x) names)
