use Rattle.std.proofs.Common.{ℕ, ◌<◌, ◌≤◌, ◌+◌, ◌*◌, ◌↔◌, ◌⊎◌, All, length, get_or, sym, subst, arith}
use Rattle.std.proofs.lemmas.List.Elements.{Contains-get_or}
use Rattle.mk_index.specs.Bits.{HasBit}
use Rattle.mk_decide.proofs.Edges.{all_smaller}
use Rattle.mk_decide.proofs.Filling.{row_ends}
use Rattle.mk_fix.specs.Musts.{IsBehind}
use Rattle.mk_fix.proofs.Musting.{below_more, must_row, way_row}
use Rattle.mk_fix.proofs.fix.add_node.Goals as goal

pub merge_rows-requires : goal.merge_rows-requires
merge_rows-requires c =
    let all = subst (All (λ p. p < c.args.b)) (sym c.prerequisites-needs.ensures) (all_smaller c.args.jobs.now c.args.b c.count-count.ensures.valid) in
    λ k d at. let ends = row_ends (get_or c.prerequisites-needs.result.now k d) c.args.b (length c.args.row.now) (all k d at) in let long = c.requires.long in omega (arith, ends, long)

pub merge_rows-requires-2 : goal.merge_rows-requires-2
merge_rows-requires-2 c = λ k d at.
    let p = get_or c.args.firsts.now k d in
    let less = ((c.requires.firsts p).0 (Contains-get_or c.args.firsts.now k d at)).0 in
    let ends = row_ends p c.args.b (length c.args.row.now) less in
    let long = c.requires.long in
    subst (λ w. p * w + w ≤ length c.args.done.now) (sym c.merge_rows.auto.row) (omega (arith, ends, long))

pub add_edges-requires-clause-wide : goal.add_edges-requires-clause-wide
add_edges-requires-clause-wide c = λ k d at.
    let less = ((c.requires.firsts (get_or c.args.firsts.now k d)).0 (Contains-get_or c.args.firsts.now k d at)).0 in
    let node = c.requires.node in let wide = c.requires.wide in let one = c.merge_rows.auto.row in let two = c.merge_rows-2.auto.row in
    omega (arith, less, node, wide, one, two)

pub set_bits-requires : goal.set_bits-requires
set_bits-requires c = λ k d at.
    let all = subst (All (λ p. p < c.args.b)) (sym c.prerequisites-needs.ensures) (all_smaller c.args.jobs.now c.args.b c.count-count.ensures.valid) in
    let less = all k d at in
    let node = c.requires.node in let wide = c.requires.wide in let one = c.merge_rows.auto.row in let two = c.merge_rows-2.auto.row in
    omega (arith, less, node, wide, one, two)

pub set_bits-requires-2 : goal.set_bits-requires-2
set_bits-requires-2 c = λ k d at.
    let less = ((c.requires.firsts (get_or c.args.firsts.now k d)).0 (Contains-get_or c.args.firsts.now k d at)).0 in
    let node = c.requires.node in let wide = c.requires.wide in let one = c.merge_rows.auto.row in let two = c.merge_rows-2.auto.row in let three = c.set_bits.auto.row in
    omega (arith, less, node, wide, one, two, three)

pub returns-clause-row : goal.returns-clause-row
returns-clause-row c =
    let jobs = c.args.jobs.now in
    let b = c.args.b in
    let width = length c.args.row.now in
    let done = c.args.done.now in
    let needs = c.prerequisites-needs.result.now in
    let firsts = c.args.firsts.now in
    let two = subst (λ w. (n : ℕ) → HasBit c.merge_rows-2.new.row n ↔ (HasBit c.merge_rows.new.row n ⊎ IsBehind w done firsts n)) c.merge_rows.auto.row c.merge_rows-2.ensures in
    let way = way_row jobs width b done needs firsts c.args.row.now c.merge_rows.new.row c.merge_rows-2.new.row c.count-count.ensures.valid c.prerequisites-needs.ensures
    c.requires.firsts c.requires.rows c.requires.clear c.merge_rows.ensures two in
    must_row jobs b needs firsts c.merge_rows-2.new.row c.set_bits.new.row c.set_bits-2.new.row c.prerequisites-needs.ensures c.requires.firsts way c.set_bits.ensures c.set_bits-2.ensures

pub returns-clause-below : goal.returns-clause-below
returns-clause-below c =
    let jobs = c.args.jobs.now in
    let b = c.args.b in
    let width = length c.args.row.now in
    let done = c.args.done.now in
    let needs = c.prerequisites-needs.result.now in
    let firsts = c.args.firsts.now in
    let two = subst (λ w. (n : ℕ) → HasBit c.merge_rows-2.new.row n ↔ (HasBit c.merge_rows.new.row n ⊎ IsBehind w done firsts n)) c.merge_rows.auto.row c.merge_rows-2.ensures in
    let way = way_row jobs width b done needs firsts c.args.row.now c.merge_rows.new.row c.merge_rows-2.new.row c.count-count.ensures.valid c.prerequisites-needs.ensures
    c.requires.firsts c.requires.rows c.requires.clear c.merge_rows.ensures two in
    below_more jobs b firsts c.merge_rows-2.new.row c.args.edges.now.items c.add_edges.new.edges.items c.requires.firsts way c.requires.below
    c.in_ok-add_edges.ensures.kept c.in_ok-add_edges.ensures.only c.in_ok-add_edges.ensures.all
