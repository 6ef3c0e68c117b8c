use Rattle.std.proofs.Common.{ℕ, ◌≡◌, ◌<◌, ◌≤◌, ◌+◌, ◌*◌, Bool, List, All, length, take, drop, get_or, sym, subst, arith, length-take-le}
use Rattle.std.proofs.lemmas.List.Elements.{All-take, All-drop}
use Rattle.mk_jobs.specs.Jobs.{node_count, prerequisites_of}
use Rattle.mk_decide.proofs.Edges.{all_below, all_smaller}
use Rattle.mk_decide.proofs.Filling.{row_ends, drop_row}
use Rattle.mk_missing.specs.Hearing.{AreHeard}
use Rattle.mk_missing.proofs.Heard.{heard_more}
use Rattle.mk_missing.proofs.News.{Gains}
use Rattle.mk_missing.proofs.hearing.fill_rows.Goals as goal

pub add_news-requires-clause-nodes : goal.add_news-requires-clause-nodes
add_news-requires-clause-nodes c =
    let jobs = c.args.jobs.now in
    subst (All (λ p. p < node_count jobs)) (sym c.prerequisites.ensures)
    (all_below jobs c.loop-n.n (node_count jobs) c.count-n-end.ensures.valid (omega (arith, c.count-n-end.ensures.count)))

pub add_news-requires-clause-wide : goal.add_news-requires-clause-wide
add_news-requires-clause-wide c =
    let jobs = c.args.jobs.now in
    let width = c.args.width in
    let rest = c.split_at_mut-done.result.1.now in
    let below : c.loop-n.n < node_count jobs = omega (arith, c.count-n-end.ensures.count) in
    let long : length (take width rest) ≡ width =
    length-take-le width rest (omega (arith, row_ends c.loop-n.n (node_count jobs) width below, c.split_at_mut-done.ensures.back_len, c.requires.long)) in
    omega (arith, long, c.requires.wide)

pub add_news-requires-clause-there : goal.add_news-requires-clause-there
add_news-requires-clause-there c =
    let jobs = c.args.jobs.now in
    let width = c.args.width in
    let rest = c.split_at_mut-done.result.1.now in
    let below : c.loop-n.n < node_count jobs = omega (arith, c.count-n-end.ensures.count) in
    let long : length (take width rest) ≡ width =
    length-take-le width rest (omega (arith, row_ends c.loop-n.n (node_count jobs) width below, c.split_at_mut-done.ensures.back_len, c.requires.long)) in
    let all = subst (All (λ p. p < c.loop-n.n)) (sym c.prerequisites.ensures) (all_smaller jobs c.loop-n.n c.count-n-end.ensures.valid) in
    λ k d at.
    let p = get_or c.prerequisites.result.now k d in
    let ends = row_ends p c.loop-n.n width (all k d at) in
    subst (λ n. p * n + n ≤ length c.split_at_mut-done.result.0.now) (sym long) (omega (arith, ends, c.split_at_mut-done.ensures.front_len))

pub loop-n-preserved : goal.loop-n-preserved
loop-n-preserved c =
    let jobs = c.args.jobs.now in
    let width = c.args.width in
    let n = c.loop-n.n in
    let done = c.split_at_mut-done.result.0.now in
    let rest = c.split_at_mut-done.result.1.now in
    let clear = take width rest in
    let row = c.add_news.new.row in
    let below : n < node_count jobs = omega (arith, c.count-n-end.ensures.count) in
    let wide : length clear ≡ width =
    length-take-le width rest (omega (arith, row_ends n (node_count jobs) width below, c.split_at_mut-done.ensures.back_len, c.requires.long)) in
    let kept : length row ≡ width = omega (arith, wide, c.add_news.auto.row) in
    let long : length done ≡ n * width = c.split_at_mut-done.ensures.front_len in
    let rows = subst (λ (ws : List ℕ). AreHeard jobs width ws n) c.split_at_mut-done.ensures.value c.loop-n.invariant.0 in
    let zeros = subst (All (λ word. word ≡ 0)) (sym c.split_at_mut-done.ensures.back) c.loop-n.invariant.1 in
    let gains = subst (λ (live : Bool). Gains jobs width done live (prerequisites_of jobs n) clear row) c.is_live.ensures
    (subst (λ (ns : List ℕ). Gains jobs width done c.is_live.result ns clear row) c.prerequisites.ensures
    (subst (λ w. Gains jobs w done c.is_live.result c.prerequisites.result.now clear row) wide c.add_news.ensures)) in (
      heard_more jobs width n done rest clear row (drop width rest) c.count-n-end.ensures.valid long kept rows (All-take (λ word. word ≡ 0) width rest zeros) gains,
      subst (All (λ word. word ≡ 0)) (sym (drop_row width n done row (drop width rest) long kept)) (All-drop (λ word. word ≡ 0) width rest zeros),
    )

pub returns : goal.returns
returns c = λ x below. c.loop-n.invariant.0 x (omega (arith, below, c.loop-n-test.false, c.count-n-end.ensures.count))
