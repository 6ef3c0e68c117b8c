use Rattle.std.proofs.Common.{◌<◌, [], ap, map, sym, ◌∙◌, arith, length, subst}
use Rattle.std.proofs.lemmas.List.{get_or-map, length-map}
use Rattle.std.proofs.lemmas.Option.{unwrap_or-slice_get}
use Rattle.std.specs.Cmp.Lexicographic.{slice_cmp}
use Rattle.std.specs.Ordering.{nat_cmp}
use Rattle.mk_jobs.specs.Plan.{Node, names_of, nobody}
use Rattle.mk_foot.proofs.OwnedNames.{lent_put, names_more}
use Rattle.mk_foot.proofs.owned.add_nodes.Goals as goal

pub loop-n-preserved : goal.loop-n-preserved
loop-n-preserved c =
    let nodes = c.args.plan.now.nodes in
    let n = c.loop-n.n in
    let within : n < length nodes = subst (λ k. n < k) c.count-n-end.ensures.count c.loop-n-test.true in
    names_more _ _ _ (names_of nodes) n _ [] (omega (arith, within, length-map nodes (λ (d : Node). d.name))) c.loop-n.invariant
    (ap (map (λ name. name.now)) c.in_ok-insert.ensures.keys ∙ lent_put (λ name. name.now) (slice_cmp nat_cmp) c.loop-n.names.keys c.name.result)
    (c.name.ensures ∙ ap (λ (d : Node). d.name) (unwrap_or-slice_get nodes n nobody) ∙ sym (get_or-map (λ (d : Node). d.name) nodes n nobody [] within))
