use Rattle.std.proofs.Common.{List, Vec, ◌≡◌, ◌++◌, ◌-◌, ◌/◌, ap, drop, length, map, subst, take, ◌∙◌}
use Rattle.std.specs.Global.{Global}
use Rattle.std.specs.List.{flat_map}
use Rattle.std.proofs.lemmas.List.{take_rest}
use Rattle.mk_index.specs.declared.gather.Gathered.{Gathered}
use Rattle.mk_path.specs.declared.path.Path.{Path}
use Rattle.mk_index.specs.Gather.{AreGathered}
use Rattle.mk_index.proofs.Holding.{if_ok}
use Rattle.mk_path.proofs.Numbering.{behind}
use Rattle.mk_index.proofs.Uniting.{flat_parts, gathered_empty, items}
use Rattle.mk_index.proofs.gather.+gather.Goals as goal

pub returns-in-empty : goal.returns-in-empty
returns-in-empty t c =
    gathered_empty c.args.rows.now (map behind c.new.result.items) c.new-in-empty.result.items c.in-empty.len_below (ap (map behind) c.new.ensures.items) c.new-in-empty.ensures.items

pub returns-in_ok-second-in_default : goal.returns-in_ok-second-in_default
returns-in_ok-second-in_default t c =
    let rows = c.args.rows.now in
    let half = length rows / 2 in
    let rest = take (length rows - half) (drop half rows) in
    let first = c.in_ok-first-in_default.first in
    let second = c.in_ok-second-in_default.second in
    let all : flat_map items (take half rows) ++ flat_map items rest ≡ flat_map items rows =
    ap (λ (rs : List (Vec Path Global)). flat_map items (take half rows) ++ flat_map items rs) (take_rest rows half) ∙ flat_parts rows half in
    if_ok c.join.result
    (λ (made : Gathered). (before behind_them : List Path) → AreGathered before (map behind first.paths.items) first.numbers.items
    → AreGathered behind_them (map behind second.paths.items) second.numbers.items
    → AreGathered (before ++ behind_them) (map behind made.paths.items) made.numbers.items)
    (λ (made : Gathered). AreGathered (flat_map items rows) (map behind made.paths.items) made.numbers.items) c.join.ensures
    (λ made more. subst (λ (ps : List Path). AreGathered ps (map behind made.paths.items) made.numbers.items) all
    (more (flat_map items (take half rows)) (flat_map items rest) c.in_ok-first-in_default.ensures c.in_ok-second-in_default.ensures))
