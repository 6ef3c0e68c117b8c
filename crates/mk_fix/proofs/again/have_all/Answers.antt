use Rattle.std.proofs.Common.{◌∙◌, sym}
use Rattle.std.proofs.lemmas.Bool.{false≢true}
use Rattle.mk_fix.proofs.again.have_all.Goals as goal

pub returns-then-not-has_nodes : goal.returns-then-not-has_nodes
returns-then-not-has_nodes c = (
  λ is. absurd (false≢true is),
  λ all. absurd (false≢true (sym c.if-not-has_nodes.true ∙ c.has_nodes.ensures.1 (λ n below. (all.nodes n below, all.needs n below)))),
)

pub returns : goal.returns
returns c =
    let nodes = c.has_nodes.ensures.0 c.if-not-has_nodes.false in (
      λ is. record {
        count = sym c.count.ensures.count ∙ c.if-count.false ∙ c.count-2.ensures.count;
        nodes = λ n below. (nodes n below).0;
        needs = λ n below. (nodes n below).1;
        added = c.has_edges.ensures.0 is;
      },
      λ all. c.has_edges.ensures.1 all.added,
    )
