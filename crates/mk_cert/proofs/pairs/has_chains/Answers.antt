use Rattle.std.proofs.Common.{◌≢◌, arith, inl, inr, subst, sym}
use Rattle.std.proofs.lemmas.Bool.{cases_eq}
use Rattle.mk_index.specs.Uses.{Reaches}
use Rattle.mk_jobs.specs.Reaching.{uses_of}
use Rattle.mk_cert.specs.Pairs.{IsPaired}
use Rattle.mk_cert.proofs.pairs.has_chains.Goals as goal

pub loop-b-preserved : goal.loop-b-preserved
loop-b-preserved c = λ a b below apart reach. elim (cases_eq b c.loop-b.b) [
  | inl same ↦ subst (λ n. a ≢ n → Reaches (uses_of c.args.jobs.now) a n → IsPaired c.args.certificate.now a n) (sym same)
      (λ other there. c.has_chains_of.ensures.0 c.if-not-has_chains_of.false a other there) apart reach
  | inr other ↦ c.loop-b.invariant a b (omega (arith, below)) apart reach
]
