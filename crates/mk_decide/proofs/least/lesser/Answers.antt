use Rattle.std.proofs.Common.{◌<◌, sym, subst}
use Rattle.std.proofs.lemmas.Bool.{both_ways}
use Rattle.mk_jobs.specs.Jobs.{Jobs, Before, node_count}
use Rattle.mk_jobs.proofs.JobsLemmas.{clash_live}
use Rattle.mk_decide.proofs.Finding.{race_is}
use Rattle.mk_decide.proofs.least.lesser.Goals as goal

pub before-requires-clause-first : goal.before-requires-clause-first
before-requires-clause-first g c = subst (λ (jobs : Jobs). c.args.a < node_count jobs) (sym c.requires.same) (clash_live c.requires.clash.1).first_node

pub before-requires-clause-second : goal.before-requires-clause-second
before-requires-clause-second g c = subst (λ (jobs : Jobs). c.args.b < node_count jobs) (sym c.requires.same) (clash_live c.requires.clash.1).second_node

pub returns-clause-race : goal.returns-clause-race
returns-clause-race g c = race_is c.args._jobs.now c.args.a c.args.b c.requires.shape c.requires.rises c.requires.clash
    (λ before. both_ways c.before-2.result c.if-before.false (c.before-2.ensures.exact.1 (subst (λ (jobs : Jobs). Before jobs c.args.a c.args.b) (sym c.requires.same) before)))
