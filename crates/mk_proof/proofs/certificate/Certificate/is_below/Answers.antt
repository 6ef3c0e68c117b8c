use Rattle.std.proofs.Common.{◌≡◌, ◌-◌, get_or, length, ap, ap₂, ◌∙◌, arith, eq-eqb, ℕ}
use Rattle.std.specs.Ordering.{is_lt, nat_cmp}
use Rattle.mk_proof.specs.Shapes.{ends_of, pair_cmp}
use Rattle.mk_proof.proofs.Risen.{ends_answer, ends_push, pairs_lt}
use Rattle.mk_proof.proofs.certificate.Certificate.is_below.Goals as goal

pub returns-then-count-eq0 : goal.returns-then-count-eq0
returns-then-count-eq0 c = (
  λ is. ends_push c.args.self.now c.args.chain.now c.count-count.ensures.shaped.rise (λ some. absurd (omega (arith, c.count-count.ensures.value, c.if-count-eq0.true))),
  λ sorted. eq-eqb c.count-count.result 0 c.if-count-eq0.true,
)

pub returns-else-count-eq0 : goal.returns-else-count-eq0
returns-else-count-eq0 c =
    let last = c.chain.result.now in
    let at : last ≡ get_or c.args.self.now (length c.args.self.now - 1) last = c.chain.ensures ∙ ap (λ n. get_or c.args.self.now (n - 1) last) c.count-count.ensures.value in
    let lt : c.lt.result ≡ is_lt (pair_cmp (ends_of last) (ends_of c.args.chain.now)) =
    c.lt.ensures
    ∙ pairs_lt (nat_cmp c.ends.result.0 c.ends-else-count-eq0.result.0) (nat_cmp c.ends.result.1 c.ends-else-count-eq0.result.1)
    ∙ ap₂ (λ (p q : ℕ × ℕ). is_lt (pair_cmp p q)) c.ends.ensures c.ends-else-count-eq0.ensures in
    ends_answer c.args.self.now c.args.chain.now last c.lt.result c.count-count.ensures.shaped.rise (omega (arith, c.count-count.ensures.value, c.if-count-eq0.false)) at lt
