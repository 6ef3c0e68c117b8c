use Rattle.std.proofs.Common.{inl}
use Rattle.mk_race.proofs.fixing.try_jobs.Goals as goal

pub returns-then-not-free-clause-answer : goal.returns-then-not-free-clause-answer
returns-then-not-free-clause-answer c = (c.in-Ok.ensures.few, inl (c.in-Ok.ensures.race c.if-not-free.true))
