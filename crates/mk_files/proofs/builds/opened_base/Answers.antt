use Rattle.std.proofs.lemmas.Result.{err_from_is_err_and}
use Rattle.mk_files.proofs.Building.{alone}
use Rattle.mk_files.proofs.builds.opened_base.Goals as goal

pub returns-in_err-opened-in-Some-clause-cannot : goal.returns-in_err-opened-in-Some-clause-cannot
returns-in_err-opened-in-Some-clause-cannot g c =
    let p = err_from_is_err_and c.from_residual.result c.from_residual.ensures.1 in
    rw (p.1, p.2, c.in-Some.is) (alone _ _ _ c.in_err-opened-in-Some.ensures.cannot)
