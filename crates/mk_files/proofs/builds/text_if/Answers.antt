use Rattle.mk_files.proofs.Building.{short_or_alone}
use Rattle.mk_files.proofs.Reported.{err_more}
use Rattle.mk_files.proofs.builds.text_if.Goals as goal

pub returns-in-Some-clause-cannot : goal.returns-in-Some-clause-cannot
returns-in-Some-clause-cannot g c =
    rw c.in-Some.is (err_more _ _ c.text_in.result (λ failure. short_or_alone _ _ failure) c.text_in.ensures.cannot)
