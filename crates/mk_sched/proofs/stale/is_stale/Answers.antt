use Rattle.std.proofs.Common.{ℕ, List, get_or, subst, arith}
use Rattle.std.proofs.lemmas.List.Elements.{Contains-get_or}
use Rattle.std.specs.List.{Contains}
use Rattle.mk_sched.proofs.stale.is_stale.Goals as goal

pub is_outdated-requires : goal.is_outdated-requires
is_outdated-requires c = λ k d inside.
    let of : Contains c.prerequisites.result.now (get_or c.prerequisites.result.now k d) = Contains-get_or c.prerequisites.result.now k d inside in
    let below = c.count-count.ensures.valid.smaller c.args.n (get_or c.prerequisites.result.now k d) (subst (λ (ps : List ℕ). Contains ps (get_or c.prerequisites.result.now k d)) c.prerequisites.ensures of) in
    omega (arith, below, c.requires)
