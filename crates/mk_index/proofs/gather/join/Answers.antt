use Rattle.std.proofs.Common.{List, ℕ, ◌≡◌, ◌++◌, ap₂, map, subst, sym, ◌∙◌}
use Rattle.std.proofs.lemmas.List.{length-map}
use Rattle.mk_index.specs.Gather.{AreGathered}
use Rattle.mk_path.proofs.Numbering.{behind}
use Rattle.mk_index.proofs.Uniting.{at, joined, moved_at_lent, union_at, within_places}
use Rattle.mk_index.proofs.gather.join.Goals as goal

pub add_numbers-requires : goal.add_numbers-requires
add_numbers-requires c =
    let first = c.args.first.now in
    let made = c.in_ok-union.union in
    let union = union_at first.paths.items c.deref.result.now c.args.second.now.paths.items c.deref-2.result.now (map behind made.paths.items) made.firsts.items made.seconds.items
    c.deref.ensures.value c.deref-2.ensures.value c.in_ok-union.ensures in
    within_places (map behind first.paths.items) (map behind made.paths.items) made.firsts.items first.numbers.items c.deref-3.result.now c.deref-4.result.now _ union.first_places
    (length-map first.paths.items behind) c.requires.first_within c.deref-3.ensures.value c.deref-4.ensures.value

pub add_numbers-requires-2 : goal.add_numbers-requires-2
add_numbers-requires-2 c =
    let second = c.args.second.now in
    let made = c.in_ok-union.union in
    let union = union_at c.args.first.now.paths.items c.deref.result.now second.paths.items c.deref-2.result.now (map behind made.paths.items) made.firsts.items made.seconds.items
    c.deref.ensures.value c.deref-2.ensures.value c.in_ok-union.ensures in
    within_places (map behind second.paths.items) (map behind made.paths.items) made.seconds.items second.numbers.items c.deref-5.result.now c.deref-6.result.now _ union.second_places
    (length-map second.paths.items behind) c.requires.second_within c.deref-5.ensures.value c.deref-6.ensures.value

pub returns : goal.returns
returns c = λ rows others rows_are others_are.
    let first = c.args.first.now in
    let second = c.args.second.now in
    let made = c.in_ok-union.union in
    let ps = map behind made.paths.items in
    let union = union_at first.paths.items c.deref.result.now second.paths.items c.deref-2.result.now ps made.firsts.items made.seconds.items
    c.deref.ensures.value c.deref-2.ensures.value c.in_ok-union.ensures in
    let both = joined rows others (map behind first.paths.items) (map behind second.paths.items) ps first.numbers.items second.numbers.items made.firsts.items made.seconds.items
    union rows_are others_are in
    let front : c.add_numbers.new.numbers.items ≡ map (at made.firsts.items) first.numbers.items =
    c.in_ok-add_numbers.ensures ∙ ap₂ (λ (ns ms : List ℕ). ns ++ ms) c.in_ok-numbers.ensures.items
    (moved_at_lent c.deref-3.result.now first.numbers.items c.deref-4.result.now made.firsts.items c.deref-3.ensures.value c.deref-4.ensures.value) in
    let all : c.add_numbers-2.new.numbers.items ≡ map (at made.firsts.items) first.numbers.items ++ map (at made.seconds.items) second.numbers.items =
    c.in_ok-add_numbers-2.ensures ∙ ap₂ (λ (ns ms : List ℕ). ns ++ ms) front
    (moved_at_lent c.deref-5.result.now second.numbers.items c.deref-6.result.now made.seconds.items c.deref-5.ensures.value c.deref-6.ensures.value) in
    subst (λ (ns : List ℕ). AreGathered (rows ++ others) ps ns) (sym all) both
