use Rattle.std.proofs.Common.{ℕ, ◌≡◌, Bool, Err, IfErr, subst, sym}
use Rattle.mk_name.specs.Gives.{HaltsAmong}
use Rattle.mk_decide.specs.Pairs.{too_many}
use Rattle.mk_race.specs.Judged.{HasTooMany}
use Rattle.mk_race.proofs.judging.verdict_on.Goals as goal

pub returns-then-short-clause-many : goal.returns-then-short-clause-many
returns-then-short-clause-many c =
    subst (λ (short : Bool). IfErr c.decide_short.result (λ halt. HaltsAmong {Y = ℕ} halt (λ answer. (answer ≡ Err too_many) × HasTooMany short c.args.jobs.now)))
    (sym c.if-short.true) c.decide_short.ensures.many

pub returns-else-short-clause-many : goal.returns-else-short-clause-many
returns-else-short-clause-many c =
    subst (λ (short : Bool). IfErr c.decide.result (λ halt. HaltsAmong {Y = ℕ} halt (λ answer. (answer ≡ Err too_many) × HasTooMany short c.args.jobs.now)))
    (sym c.if-short.false) c.decide.ensures.many
