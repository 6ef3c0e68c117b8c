use Rattle.std.proofs.Common.{refl, sym, subst}
use Rattle.mk_jobs.specs.Jobs.{Jobs, Clash}
use Rattle.mk_jobs.proofs.Reaching.{no_overlap_apart, overlap_clashes}
use Rattle.mk_jobs.proofs.jobs.Jobs.clash.Goals as goal

pub returns-in-None-clause-clash : goal.returns-in-None-clause-clash
returns-in-None-clause-clash c = (
  λ no. cc,
  λ clash.
      let inside = subst (λ (jobs : Jobs). Clash jobs c.args.a c.args.b) (sym c.self.view_is) clash in
      absurd (no_overlap_apart _ c.args.a c.args.b c.self.invariant.shape (λ o. c.in-None.ensures.none _ o c.self.invariant.indexed) inside),
)

pub returns-in-Some-clause-clash : goal.returns-in-Some-clause-clash
returns-in-Some-clause-clash c = (
  λ yes. subst (λ (jobs : Jobs). Clash jobs c.args.a c.args.b) c.self.view_is
      (overlap_clashes _ c.args.a c.args.b _ c.self.invariant.shape c.if-a-b.false (c.in-Some.ensures.some _ c.self.invariant.indexed).overlap),
  λ clash. refl,
)
