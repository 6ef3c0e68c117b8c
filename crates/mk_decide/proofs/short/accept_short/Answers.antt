use Rattle.std.proofs.Common.{ℕ, List, sym, subst}
use Rattle.std.specs.List.{Contains}
use Rattle.mk_sched.proofs.Determinate.{headline}
use Rattle.mk_decide.proofs.Between.{short_is_race_free}
use Rattle.mk_decide.proofs.short.accept_short.Goals as goal

pub returns-clause-certificate : goal.returns-clause-certificate
returns-clause-certificate c =
    let chains = c.are_chains.ensures.0 c.if-not-are_chains.false in
    let near = c.in_ok-pairs.ensures in (
      λ all. record {
        rise = c.count-chains.ensures.shaped.rise;
        nodes = chains.0;
        edges = chains.1;
        all = λ a b one. c.has_all.ensures.0 all a b (subst (λ (ps : List (ℕ × ℕ)). Contains ps (a, b)) (sym c.deref.ensures.value) ((near a b).1 one));
      },
      λ short. c.has_all.ensures.1 (λ a b there. short.all a b ((near a b).0 (subst (λ (ps : List (ℕ × ℕ)). Contains ps (a, b)) c.deref.ensures.value there))),
    )

pub returns-clause-determinate : goal.returns-clause-determinate
returns-clause-determinate c = λ all.
    headline c.args.jobs.now c.count-count.ensures.valid
    (short_is_race_free c.args.jobs.now c.args.certificate.now c.count-count.ensures.valid ((returns-clause-certificate c).0 all))
