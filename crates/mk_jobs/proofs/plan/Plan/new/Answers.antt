use Rattle.std.proofs.Common.{◌∙◌, ap, arith, length, sym}
use Rattle.std.proofs.lemmas.List.{length-map}
use Rattle.mk_jobs.specs.Plan.{names_of, with_name, with_names}
use Rattle.mk_jobs.proofs.Finding.{found_in_turn, names_count}
use Rattle.mk_jobs.proofs.plan.Plan.new.Goals as goal

pub numbered-requires-clause-places : goal.numbered-requires-clause-places
numbered-requires-clause-places c =
    let taken = c.in_ok-nodes.ensures in
    let count = names_count c.args.nodes.items c.in_ok-nodes.field-0.names taken.names in
    omega (arith, count, ap length taken.nodes, length-map c.in_ok-nodes.field-0.nodes.items (with_name c.in_ok-nodes.field-0.names), c.in_ok-places.ensures.length, c.len.ensures, c.in_ok-nodes.field-0.nodes.ok.0)

pub numbered-requires-clause-found : goal.numbered-requires-clause-found
numbered-requires-clause-found c =
    let taken = c.in_ok-nodes.ensures in
    let count = names_count c.args.nodes.items c.in_ok-nodes.field-0.names taken.names in
    found_in_turn (with_names c.in_ok-nodes.field-0.names c.in_ok-nodes.field-0.nodes.items) c.in_ok-nodes.field-0.names c.in_ok-places.places.items (taken.names ∙ ap names_of (sym taken.nodes))
    (λ n below. c.in_ok-places.ensures.each n
    (omega (arith, below, count, ap length taken.nodes, length-map c.in_ok-nodes.field-0.nodes.items (with_name c.in_ok-nodes.field-0.names), c.len.ensures, c.in_ok-nodes.field-0.nodes.ok.0)))
