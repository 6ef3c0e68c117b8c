use Rattle.std.proofs.Common.{◌≡◌, Ok, subst, sym}
use Rattle.std.proofs.lemmas.Result.{IfOk-weaker}
use Rattle.mk_jobs.specs.Jobs.{Jobs}
use Rattle.mk_name.specs.Gives.{Answers}
use Rattle.mk_race.specs.Fixed.{IsFixingOf}
use Rattle.mk_race.specs.Parts.{IsReadFrom}
use Rattle.mk_race.specs.Stages.{IsPrepared}
use Rattle.mk_race.specs.declared.preparing.Prepared.{Prepared}
use Rattle.mk_race.proofs.Behind.{answers_behind}
use Rattle.mk_race.proofs.Fixings.{fixing_shows}
use Rattle.mk_race.proofs.fixing.fix_build.Goals as goal

pub returns-clause-answer : goal.returns-clause-answer
returns-clause-answer c = λ texts lines from prepared build same.
    answers_behind (IsPrepared texts lines) (λ (p : Prepared). IsFixingOf texts lines p.jobs) prepared c.fix_with.result build
    (subst (λ (jobs : Jobs). Answers c.fix_with.result (IsFixingOf texts lines jobs)) (sym same) (c.fix_with.ensures.answer texts lines from prepared build same))

pub returns-clause-headline : goal.returns-clause-headline
returns-clause-headline c =
    IfOk-weaker c.fix_with.result _ _ (λ fixing shows texts lines from prepared build same. shows texts lines (from, (prepared, build, same)))
    (fixing_shows (λ texts lines. IsReadFrom c.args.build texts lines × ((prepared : Prepared) × IsPrepared texts lines (Ok prepared) × (prepared.jobs ≡ c.args.jobs)))
    c.fix_with.result (λ texts lines of. returns-clause-answer c texts lines of.0 of.1.0 of.1.1 of.1.2) c.fix_with.ensures.safe)
