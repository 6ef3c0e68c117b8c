use Rattle.std.proofs.Common.{ℕ, ◌≡◌, ◌<◌, ◌*◌, ◌∙◌, List, [], Vec, All, length, take, drop, get_or, map, sym, ap, subst, arith, length-take-le}
use Rattle.std.specs.Global.{Global}
use Rattle.std.proofs.lemmas.List.{get_or-map}
use Rattle.std.proofs.lemmas.List.Elements.{All-take, All-drop}
use Rattle.mk_jobs.specs.Jobs.{node_count}
use Rattle.mk_decide.proofs.Filling.{drop_row, row_ends}
use Rattle.mk_fix.specs.Musts.{AreFirsts, AreMustRows}
use Rattle.mk_fix.proofs.Musting.{below_none, must_rows_front, must_rows_more}
use Rattle.mk_fix.proofs.fix.add_races.Goals as goal

pub loop-b-init : goal.loop-b-init
loop-b-init c = record {
  rows = λ x below. absurd (omega (arith, below));
  clear = subst (All (λ word. word ≡ 0)) (ap (λ k. drop k c.args.words.now) (let e : 0 ≡ 0 * c.args.width = omega arith in e)) c.requires.clear;
  below = below_none c.args.jobs.now c.args.edges.now.items c.requires.none;
}

pub add_node-requires-clause-rows : goal.add_node-requires-clause-rows
add_node-requires-clause-rows c =
    let jobs = c.args.jobs.now in
    let width = c.args.width in
    let rest = c.split_at_mut-done.result.1.now in
    let below : c.loop-b.b < node_count jobs = omega (arith, c.count-b-end.ensures.count) in
    let wide : length (take width rest) ≡ width =
    length-take-le width rest (omega (arith, row_ends c.loop-b.b (node_count jobs) width below, c.split_at_mut-done.ensures.back_len, c.requires.long)) in
    let done = c.split_at_mut-done.result.0.now in
    let rows = subst (λ (ws : List ℕ). AreMustRows jobs width ws c.loop-b.b) c.split_at_mut-done.ensures.value c.loop-b.invariant.rows in
    subst (λ w. AreMustRows jobs w done c.loop-b.b) (sym wide) (must_rows_front jobs width c.loop-b.b done rest c.split_at_mut-done.ensures.front_len rows)

pub add_node-requires-clause-clear : goal.add_node-requires-clause-clear
add_node-requires-clause-clear c =
    All-take (λ word. word ≡ 0) c.args.width c.split_at_mut-done.result.1.now (subst (All (λ word. word ≡ 0)) (sym c.split_at_mut-done.ensures.back) c.loop-b.invariant.clear)

pub add_node-requires-clause-firsts : goal.add_node-requires-clause-firsts
add_node-requires-clause-firsts c =
    let jobs = c.args.jobs.now in
    let b = c.loop-b.b in
    let row = c.index-firsts-b.result in
    let below : b < node_count jobs = omega (arith, c.count-b-end.ensures.count) in
    let there : b < length c.args.firsts.now = let count = c.requires.count in omega (arith, below, count) in
    let is : get_or (map (λ (v : Vec ℕ Global). v.items) c.args.firsts.now) b [] ≡ c.deref.result.now =
    get_or-map (λ (v : Vec ℕ Global). v.items) c.args.firsts.now b row [] there ∙ ap (λ (v : Vec ℕ Global). v.items) (sym c.index-firsts-b.is) ∙ sym c.deref.ensures.value in
    subst (λ (ns : List ℕ). AreFirsts jobs ns b) is (c.requires.firsts b below)

pub loop-b-preserved : goal.loop-b-preserved
loop-b-preserved c =
    let jobs = c.args.jobs.now in
    let width = c.args.width in
    let b = c.loop-b.b in
    let done = c.split_at_mut-done.result.0.now in
    let rest = c.split_at_mut-done.result.1.now in
    let row = c.add_node.new.row in
    let below : b < node_count jobs = omega (arith, c.count-b-end.ensures.count) in
    let wide : length (take width rest) ≡ width =
    length-take-le width rest (omega (arith, row_ends b (node_count jobs) width below, c.split_at_mut-done.ensures.back_len, c.requires.long)) in
    let kept : length row ≡ width = omega (arith, wide, c.add_node.auto.row) in
    let long : length done ≡ b * width = c.split_at_mut-done.ensures.front_len in
    let rows = must_rows_front jobs width b done rest long (subst (λ (ws : List ℕ). AreMustRows jobs width ws b) c.split_at_mut-done.ensures.value c.loop-b.invariant.rows) in
    let zeros = subst (All (λ word. word ≡ 0)) (sym c.split_at_mut-done.ensures.back) c.loop-b.invariant.clear in
    record {
      rows = must_rows_more jobs width b done row (drop width rest) long kept rows c.in_ok-add_node.ensures.row;
      clear = subst (All (λ word. word ≡ 0)) (sym (drop_row width b done row (drop width rest) long kept)) (All-drop (λ word. word ≡ 0) width rest zeros);
      below = c.in_ok-add_node.ensures.below;
    }
