use Rattle.std.proofs.Common.{◌∙◌}
use Rattle.std.specs.BTreeSet.{IsFromIterResult}
use Rattle.std.proofs.lemmas.Iterator.Adapters.{YieldsList-from_vec, fact_from_collect}
use Rattle.std.proofs.lemmas.Result.{IfOk-weaker}
use Rattle.mk_path.specs.Paths.{path_cmp}
use Rattle.mk_foot.proofs.Collected.{collected}
use Rattle.mk_foot.proofs.footprints.collected.Goals as goal

pub returns : goal.returns
returns c =
    let paths = c.args.paths.items in
    let all = YieldsList-from_vec paths c.into_iter.ensures.rest (c.into_iter.ensures.len ∙ c.args.paths.ok.0) in
    IfOk-weaker c.collect.result (IsFromIterResult path_cmp paths) _ (collected paths) (fact_from_collect (λ xs set. IsFromIterResult path_cmp xs set) c.collect.result c.collect.ensures.ran all)
