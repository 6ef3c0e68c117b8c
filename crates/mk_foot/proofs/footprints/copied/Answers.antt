use Rattle.std.proofs.Common.{◌∙◌}
use Rattle.std.proofs.lemmas.Result.{IfOk-weaker}
use Rattle.mk_foot.proofs.Collected.{risen}
use Rattle.mk_foot.proofs.footprints.copied.Goals as goal

pub returns : goal.returns
returns c = IfOk-weaker c.collected.result _ _ (λ set is. is ∙ risen c.in_ok-list.list.items c.in_ok-list.ensures.rising ∙ c.in_ok-list.ensures.paths) c.collected.ensures
