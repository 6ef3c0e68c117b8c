use Rattle.std.proofs.Common.{ℕ, ◌≡◌, ◌<◌, ◌+◌, ◌-◌, ◌*◌, ◌∙◌, ◌↔◌, true, List, take, drop, sym, ap, subst, arith}
use Rattle.mk_jobs.specs.Jobs.{Jobs, node_count}
use Rattle.mk_decide.specs.Bits.{row_at}
use Rattle.mk_missing.specs.Hearing.{Hears}
use Rattle.mk_missing.proofs.Heard.{hears_is}
use Rattle.mk_missing.proofs.hearing.Hearing.hears.Goals as goal

pub returns : goal.returns
returns c =
    let jobs = c.self.inside.jobs.now in
    let width = c.self.inside.width in
    let words = c.self.inside.words.items in
    let k = c.args.k in
    let n = c.args.n in
    let start = n * width in
    let second = subst (λ (jobs : Jobs). n < node_count jobs) (sym c.self.view_is) c.requires.second in
    let part : take (start + width - start) (drop start c.deref.result.now) ≡ row_at width words n =
    ap (λ m. take m (drop start c.deref.result.now)) (omega arith) ∙ ap (λ (ws : List ℕ). take width (drop start ws)) c.deref.ensures.value in
    subst (λ (jobs : Jobs). (c.has_bit.result ≡ true) ↔ Hears jobs k n) c.self.view_is
    (hears_is jobs width words (take (start + width - start) (drop start c.deref.result.now)) k n c.has_bit.result c.self.invariant second part c.has_bit.ensures)
