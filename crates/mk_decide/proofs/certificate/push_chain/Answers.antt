use Rattle.std.proofs.Common.{◌∙◌, ◌∷◌, ◌++◌, [], ℕ, List, map, ap, sym, subst}
use Rattle.std.specs.List.Sorted.{IsStrictlySortedBy}
use Rattle.std.proofs.lemmas.List.{map_push}
use Rattle.mk_decide.specs.Chosen.{IsChosen}
use Rattle.mk_proof.specs.Shapes.{AreShapedChains, ends_of, pair_cmp}
use Rattle.mk_proof.proofs.Risen.{chains_push}
use Rattle.mk_decide.proofs.Chained.{chosen_ends, chosen_shaped}
use Rattle.mk_decide.proofs.certificate.push_chain.Goals as goal

pub push-requires : goal.push-requires
push-requires g c =
    let jobs = c.args.jobs.now in
    let chains = c.args.chains.now in
    let nodes = c.fill_chain.new.nodes.items in
    let chosen : IsChosen jobs c.args.a c.args.b nodes = c.in_ok-fill_chain.ensures.chosen c.if-branch.true in
    let ends = chosen_ends jobs c.args.a c.args.b nodes chosen in
    let rise : IsStrictlySortedBy pair_cmp (map ends_of (chains ++ nodes ∷ [])) =
    subst (IsStrictlySortedBy pair_cmp) (sym (map_push ends_of chains nodes ∙ ap (λ (p : ℕ × ℕ). map ends_of chains ++ p ∷ []) ends)) c.requires.rises in
    subst (λ (ns : List ℕ). AreShapedChains (chains ++ ns ∷ [])) (sym c.as_slice.ensures.value)
    (chains_push chains nodes c.count-count.ensures.shaped c.requires.room (chosen_shaped jobs c.args.a c.args.b nodes c.requires.shape c.requires.second chosen) rise)
