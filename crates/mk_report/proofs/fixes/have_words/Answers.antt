use Rattle.std.proofs.Common.{◌∙◌, sym}
use Rattle.std.proofs.lemmas.List.Folds.{list_all_at}
use Rattle.mk_report.specs.FixText.{has_words}
use Rattle.mk_report.proofs.fixes.have_words.Goals as goal

pub returns-then-not-branch : goal.returns-then-not-branch
returns-then-not-branch c =
    sym (list_all_at (has_words c.args.jobs.now) c.args.edges.now c.loop-edge.edge-index (0, 0) c.loop-edge-test.true (sym c.in_ok-has_words.ensures ∙ c.if-not-branch.true))
