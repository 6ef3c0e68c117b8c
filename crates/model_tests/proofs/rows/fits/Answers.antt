use Rattle.std.proofs.Common.{◌∙◌, sym}
use Rattle.model_tests.proofs.Formed.{empty_fits}
use Rattle.model_tests.proofs.rows.fits.Goals as goal

pub returns-then-is_empty : goal.returns-then-is_empty
returns-then-is_empty c = λ none.
    empty_fits c.args.plan.now c.args.root.now c.args.n c.args.reads.now c.args.writes.now (sym c.is_empty.ensures ∙ c.if-is_empty.true)
    (sym c.is_empty-then-is_empty.ensures ∙ none)
