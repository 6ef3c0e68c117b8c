use Rattle.mk_race.proofs.AsClean.{builds_headline, changed, changed_list}
use Rattle.mk_race.proofs.missing.list_missing.Goals as goal

pub returns-clause-missing : goal.returns-clause-missing
returns-clause-missing c = λ texts lines are build.
    let a = c.args in
    changed_list texts lines a.prepared c.in_ok-change.change c.missing_of.result build
    (changed a.input.now texts a.prepared c.in_ok-change.change are c.in_ok-change.ensures) c.missing_of.ensures.missing

pub returns-clause-headline : goal.returns-clause-headline
returns-clause-headline c =
    builds_headline c.args.input.now c.args.prepared c.in_ok-change.change c.missing_of.result c.in_ok-change.ensures
    c.missing_of.ensures.missing c.missing_of.ensures.headline c.missing_of.ensures.from_one_run
