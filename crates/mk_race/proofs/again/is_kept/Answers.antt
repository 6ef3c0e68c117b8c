use Rattle.mk_race.proofs.Replanned.{kept_if, lost_is, number_inside}
use Rattle.std.proofs.lemmas.Bool.{false≢true}
use Rattle.mk_race.proofs.again.is_kept.Goals as goal

pub is_alike-requires-clause-second : goal.is_alike-requires-clause-second
is_alike-requires-clause-second c = number_inside c.args.plan.now.nodes c.name.result.now c.number.result c.in-Some.m c.number.ensures c.in-Some.is

pub returns-in-Some : goal.returns-in-Some
returns-in-Some c =
    kept_if c.args.jobs.now c.args.plan.now.nodes c.args.n c.in-Some.m c.name.result.now c.number.result c.is_alike.result c.number.ensures c.name.ensures.name c.in-Some.is
    c.is_alike.ensures

pub returns-in-None : goal.returns-in-None
returns-in-None c = (
  λ is. absurd (false≢true is),
  λ kept. absurd (lost_is c.args.jobs.now c.args.plan.now.nodes c.args.n c.name.result.now c.number.result c.number.ensures c.name.ensures.name c.in-None.is kept),
)
