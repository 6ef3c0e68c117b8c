use Rattle.std.proofs.Common.{ℕ, ◌∙◌, sym}
use Rattle.mk_path.proofs.Halves.{search_reports}
use Rattle.mk_proof.proofs.Risen.{pair_cmp_total}
use Rattle.mk_proof.specs.Shapes.{pair_cmp}
use Rattle.mk_decide.proofs.Paired.{pair_ties}
use Rattle.mk_fix.proofs.Remade.{found_edge, same_edge}
use Rattle.mk_fix.proofs.again.has_edge.Goals as goal

pub returns : goal.returns
returns c =
    let edges = c.args.edges.now in
    let edge : ℕ × ℕ = (c.args.p, c.args.n) in
    let reported = search_reports pair_cmp pair_cmp_total same_edge pair_ties edges edge c.binary_search.result c.requires c.binary_search.ensures.bound c.binary_search.ensures.position in
    let found = found_edge edges edge in (
      λ yes. found.0 (sym reported ∙ sym c.is_ok.ensures.value ∙ yes),
      λ there. c.is_ok.ensures.value ∙ reported ∙ found.1 there,
    )
