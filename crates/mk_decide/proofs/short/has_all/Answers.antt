use Rattle.std.proofs.Common.{ℕ, ◌≡◌, get_or, refl, sym, subst, inl, inr, arith}
use Rattle.std.proofs.lemmas.Bool.{cases_lt}
use Rattle.std.proofs.lemmas.List.{get_or_default}
use Rattle.mk_cert.specs.Certificates.{IsAtEnds}
use Rattle.mk_decide.proofs.short.has_all.Goals as goal

pub loop-i-preserved : goal.loop-i-preserved
loop-i-preserved c = λ k below d. elim (cases_lt k c.loop-i.i) [
  | inl before ↦ c.loop-i.invariant k before d
  | inr past ↦
      let pairs = c.args.pairs.now in
      let same : c.loop-i.i ≡ k = omega (arith, below, past) in
      let p = get_or pairs c.loop-i.i (0, 0) in
      let here : IsAtEnds c.args.certificate.now p.0 p.1 = c.has_chain.ensures.0 c.if-not-has_chain.false in
      subst (λ (n : ℕ). IsAtEnds c.args.certificate.now (get_or pairs n d).0 (get_or pairs n d).1) same
      (subst (λ (q : ℕ × ℕ). IsAtEnds c.args.certificate.now q.0 q.1) (sym (get_or_default pairs c.loop-i.i d (0, 0) c.loop-i-test.true)) here)
]

pub returns : goal.returns
returns c = (
  λ _ a b there.
      subst (λ (p : ℕ × ℕ). IsAtEnds c.args.certificate.now p.0 p.1) there.2
      (c.loop-i.invariant there.0 (let inside = there.1 in omega (arith, inside, c.loop-i-test.false)) (a, b)),
  λ _. refl,
)
