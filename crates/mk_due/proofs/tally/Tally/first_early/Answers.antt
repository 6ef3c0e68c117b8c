use Rattle.std.proofs.Common.{◌∙◌, List, ap, sym}
use Rattle.mk_jobs.specs.Plan as plans
use Rattle.mk_due.specs.Items.{DueItem, nodes_of}
use Rattle.mk_due.proofs.Shaped.{names_same}
use Rattle.mk_due.proofs.tally.Tally.first_early.Goals as goal

pub first_early-requires-clause-names : goal.first_early-requires-clause-names
first_early-requires-clause-names c =
    c.requires.tally.names_are ∙ sym (names_same c.args.self.now.items.items)
    ∙ ap (λ (items : List DueItem). plans.names_of (nodes_of items)) (sym c.as_slice.ensures.value)
