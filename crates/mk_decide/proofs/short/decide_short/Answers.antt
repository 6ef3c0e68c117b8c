use Rattle.std.proofs.Common.{ℕ, List, All, refl, sym, subst}
use Rattle.mk_jobs.specs.Jobs.{Before}
use Rattle.mk_cert.proofs.Overlapping.{of_race}
use Rattle.mk_cert.proofs.Sound.{holds}
use Rattle.mk_decide.specs.Pairs.{OnlyClashing}
use Rattle.mk_decide.specs.Verdicts.{AreChainsOf}
use Rattle.mk_decide.specs.declared.decision.Verdict.TheVariants.{Safe}
use Rattle.std.proofs.lemmas.Result.{err_from_is_err_and}
use Rattle.mk_decide.proofs.Certifying.{chains_short, near_clashing, same_near}
use Rattle.mk_decide.proofs.Deciding.{all_ordered, short_determinate, short_from_one_run}
use Rattle.mk_decide.proofs.Paired.{halts_more}
use Rattle.mk_decide.proofs.short.decide_short.Goals as goal

pub returns-in-Some-clause-holds : goal.returns-in-Some-clause-holds
returns-in-Some-clause-holds c =
    holds c.args.jobs.now c.in_ok-trace.trace c.count-count.ensures.valid
    (of_race c.args.jobs.now c.in_ok-trace.trace c.count-count.ensures.shape c.count-count.ensures.valid c.in_ok-trace.ensures.race)

pub returns-in-Some-clause-sure : goal.returns-in-Some-clause-sure
returns-in-Some-clause-sure c = of_race c.args.jobs.now c.in_ok-trace.trace c.count-count.ensures.shape c.count-count.ensures.valid c.in_ok-trace.ensures.race

pub returns-in_err-thin-clause-many : goal.returns-in_err-thin-clause-many
returns-in_err-thin-clause-many c =
    let p = err_from_is_err_and c.from_residual-in_err-thin.result c.from_residual-in_err-thin.ensures.1 in
    let thinned = c.in_err-thin.ensures in
    rw (p.1, p.2) (halts_more _ _ _ c.in_err-thin.field-0.0 (λ many. record {
      race_free = c.in_default.ensures.free.0 refl;
      pairs = c.thin.new.pairs.items;
      rise = thinned.rising;
      near = same_near c.in_ok-pairs.pairs.items c.thin.new.pairs.items c.in_ok-pairs.ensures thinned.same;
      many = many;
    }) thinned.many)

pub certificate_of-requires-clause-clash : goal.certificate_of-requires-clause-clash
certificate_of-requires-clause-clash c =
    subst (OnlyClashing c.args.jobs.now) (sym c.deref.ensures.value) (λ a b there. near_clashing c.in_ok-pairs.pairs.items c.in_ok-pairs.ensures a b ((c.in_ok-thin.ensures.same a b).0 there))

pub certificate_of-requires-clause-ordered : goal.certificate_of-requires-clause-ordered
certificate_of-requires-clause-ordered c =
    let free = c.in_default.ensures.free.0 refl in
    let all = all_ordered c.args.jobs.now c.thin.new.pairs.items c.count-count.ensures.valid free
    (λ a b there. near_clashing c.in_ok-pairs.pairs.items c.in_ok-pairs.ensures a b ((c.in_ok-thin.ensures.same a b).0 there)) in
    let here : All (λ (p : ℕ × ℕ). Before c.args.jobs.now p.0 p.1) c.deref.result.now = subst (All (λ (p : ℕ × ℕ). Before c.args.jobs.now p.0 p.1)) (sym c.deref.ensures.value) all in
    λ k d inside. here k d inside

pub returns-clause-answer : goal.returns-clause-answer
returns-clause-answer c =
    let free = c.in_default.ensures.free.0 refl in
    let near = same_near c.in_ok-pairs.pairs.items c.thin.new.pairs.items c.in_ok-pairs.ensures c.in_ok-thin.ensures.same in
    let of : AreChainsOf c.args.jobs.now c.thin.new.pairs.items c.in_ok-chains.chains =
    subst (λ (ps : List (ℕ × ℕ)). AreChainsOf c.args.jobs.now ps c.in_ok-chains.chains) c.deref.ensures.value c.in_ok-chains.ensures.chains in
    record {
      race_free = free;
      certificate = chains_short c.args.jobs.now c.thin.new.pairs.items c.in_ok-chains.chains c.count-count.ensures.shape c.in_ok-thin.ensures.rising near of;
      pairs = c.thin.new.pairs.items;
      rise = c.in_ok-thin.ensures.rising;
      near = near;
      chains_are = of;
    }

pub returns-clause-determinate : goal.returns-clause-determinate
returns-clause-determinate c = short_determinate c.args.jobs.now (Safe c.in_ok-chains.chains) c.count-count.ensures.shape (returns-clause-answer c)

pub returns-clause-from_one_run : goal.returns-clause-from_one_run
returns-clause-from_one_run c = short_from_one_run c.args.jobs.now (Safe c.in_ok-chains.chains) c.count-count.ensures.shape (returns-clause-answer c)
