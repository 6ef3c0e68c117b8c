use Rattle.std.proofs.Common.{◌<◌, get_or, sym, subst}
use Rattle.std.proofs.lemmas.Bool.{both_ways}
use Rattle.std.proofs.lemmas.List.{get_or_default}
use Rattle.mk_jobs.specs.Jobs.{Jobs, Before, node_count}
use Rattle.mk_jobs.proofs.JobsLemmas.{clash_live}
use Rattle.mk_decide.proofs.Chained.{first_is_least, pair_clashes}
use Rattle.mk_decide.proofs.Finding.{race_is}
use Rattle.mk_decide.proofs.certificate.first_race.Goals as goal

pub before-requires-clause-first : goal.before-requires-clause-first
before-requires-clause-first g c =
    let p = get_or c.args.pairs.now c.loop-i.i (0, 0) in
    subst (λ (jobs : Jobs). p.0 < node_count jobs) (sym c.loop-i.invariant.same) (clash_live (pair_clashes c.args._jobs.now c.args.pairs.now c.loop-i.i c.requires.pairs c.loop-i-test.true).1.1).first_node

pub before-requires-clause-second : goal.before-requires-clause-second
before-requires-clause-second g c =
    let p = get_or c.args.pairs.now c.loop-i.i (0, 0) in
    subst (λ (jobs : Jobs). p.1 < node_count jobs) (sym c.loop-i.invariant.same) (clash_live (pair_clashes c.args._jobs.now c.args.pairs.now c.loop-i.i c.requires.pairs c.loop-i-test.true).1.1).second_node

pub returns-then-not-before-clause-some : goal.returns-then-not-before-clause-some
returns-then-not-before-clause-some g c =
    let pairs = c.args.pairs.now in
    let i = c.loop-i.i in
    let p = get_or pairs i (0, 0) in
    let clash = pair_clashes c.args._jobs.now pairs i c.requires.pairs c.loop-i-test.true in
    first_is_least c.args._jobs.now pairs i p.0 p.1 c.requires.pairs c.loop-i-test.true (get_or_default pairs i (0, 0) p c.loop-i-test.true)
    (race_is c.args._jobs.now p.0 p.1 c.requires.shape clash.0 clash.1
    (λ before. both_ways c.before-in-loop-i.result c.if-not-before.true (c.before-in-loop-i.ensures.exact.1 (subst (λ (jobs : Jobs). Before jobs p.0 p.1) (sym c.loop-i.invariant.same) before))))
    c.loop-i.invariant.ordered
