use Rattle.std.proofs.Common.{◌∙◌, ◌≡◌, ◌↔◌, true, subst, sym}
use Rattle.mk_jobs.specs.Jobs.{Jobs}
use Rattle.mk_missing.specs.Hearing.{Hears}
use Rattle.mk_missing.proofs.Seeing.{name_heard}
use Rattle.mk_missing.proofs.watching.watches_name.Goals as goal

pub returns-else-is_never_there : goal.returns-else-is_never_there
returns-else-is_never_there c =
    let jobs = c.args.jobs.now in
    let k = c.in-Some.k in
    let heard = subst (λ (jobs : Jobs). (c.hears.result ≡ true) ↔ Hears jobs k c.args.n) c.requires.same c.hears.ensures in
    name_heard jobs c.args.n c.args.file.now k c.hears.result c.requires.shape c.in-Some.ensures.number.0 c.in-Some.ensures.number.1 c.if-file.false (sym c.is_never_there.ensures ∙ c.if-is_never_there.false) heard
