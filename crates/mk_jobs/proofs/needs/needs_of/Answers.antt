use Rattle.std.proofs.Common.{ℕ, List, ◌∷◌, ◌++◌, [], ◌∙◌, ap, subst}
use Rattle.std.specs.List.Sorted.{IsPermutation}
use Rattle.mk_jobs.proofs.Needed.{needs_more}
use Rattle.mk_jobs.proofs.needs.needs_of.Goals as goal

pub loop-n-preserved : goal.loop-n-preserved
loop-n-preserved c =
    let all = subst (λ (ps : List ℕ). IsPermutation ps c.in_ok-row.row.items) c.prerequisites.ensures.value c.in_ok-row.ensures.all in
    let more = needs_more c.args.plan.now.nodes c.loop-n.needs c.push_row.new.self c.in_ok-row.row.items c.loop-n.n c.loop-n.invariant.count c.loop-n.invariant.rows
    (c.in_ok-push_row.ensures.put ∙ ap (λ (row : List ℕ). c.loop-n.needs ++ row ∷ []) c.deref.ensures.value) c.in_ok-row.ensures.rising all in
    record { count = more.0; rows = more.1 }
