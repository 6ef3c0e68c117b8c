use Rattle.std.proofs.Common.{◌∙◌, sym}
use Rattle.mk_jobs.proofs.Needed.{found_in, same_members}
use Rattle.mk_jobs.proofs.jobs.Jobs.is_prerequisite.Goals as goal

pub returns : goal.returns
returns c =
    let same = same_members _ _ c.needs.ensures.all c.args.p in
    let found = found_in c.needs.result.now c.args.p c.binary_search.result c.needs.ensures.rising c.binary_search.ensures.position in
    (λ yes. same.0 (found.0 (sym c.is_ok.ensures.value ∙ yes)), λ edge. c.is_ok.ensures.value ∙ found.1 (same.1 edge))
