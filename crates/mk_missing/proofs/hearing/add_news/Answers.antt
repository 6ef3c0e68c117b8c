use Rattle.std.proofs.Common.{ℕ, ◌≡◌, ◌↔◌, ◌⊎◌, List, arith, length, take, get_or, sym, subst, true}
use Rattle.std.proofs.lemmas.List.{take_more}
use Rattle.mk_index.specs.Bits.{HasBit}
use Rattle.mk_decide.specs.Bits.{row_at}
use Rattle.mk_missing.proofs.News.{Gains, gains_more}
use Rattle.mk_missing.proofs.hearing.add_news.Goals as goal

pub loop-p-preserved : goal.loop-p-preserved
loop-p-preserved c =
    let jobs = c.args.jobs.now in
    let width = length c.args.row.now in
    let done = c.args.done.now in
    let nodes = c.args.nodes.now in
    let i = c.loop-p.p-index in
    let p = get_or nodes i 0 in
    let row = c.loop-p.row in
    let new = c.add_one.new.row in
    let same : length row ≡ width = omega (arith, c.loop-p.auto.row) in
    let merged = subst (λ w. c.carries_on.result ≡ true → (k : ℕ) → HasBit new k ↔ (HasBit row k ⊎ ((k ≡ p) ⊎ HasBit (row_at w done p) k))) same c.add_one.ensures.on in
    subst (λ (ns : List ℕ). Gains jobs width done c.args.carries ns c.args.row.now new) (sym (take_more nodes i 0 c.loop-p-test.true))
    (gains_more jobs width done c.args.carries (take i nodes) c.args.row.now row p c.loop-p.invariant new c.carries_on.result c.carries_on.ensures merged c.add_one.ensures.off)
