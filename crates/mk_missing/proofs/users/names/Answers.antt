use Rattle.std.proofs.Common.{rules, ◌∙◌}
use Rattle.std.proofs.lemmas.Fn.{always_returns_same}
use Rattle.mk_path.specs.Paths.{path_cmp, same_path}
use Rattle.mk_path.proofs.Halves.{search_reports}
use Rattle.mk_path.proofs.PathOrder.{path_cmp_total, path_ties}
use Rattle.mk_missing.proofs.users.names.Goals as goal

pub returns : goal.returns
returns c =
    let found = c.binary_search_by.ensures.position (λ y. path_cmp y c.args.path.now) (always_returns_same _ _ _ (λ a r f called. search rules)) in
    c.is_ok.ensures.value ∙ search_reports path_cmp path_cmp_total same_path path_ties c.args.paths.now c.args.path.now c.binary_search_by.result c.requires
    c.binary_search_by.ensures.bound found
