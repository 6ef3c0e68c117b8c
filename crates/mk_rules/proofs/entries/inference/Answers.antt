use Rattle.std.proofs.Common.{sym, ◌∙◌, ap}
use Rattle.mk_name.specs.Names.{kept, same_name}
use Rattle.mk_rules.specs.Book.{is_inference_rule}
use Rattle.mk_rules.proofs.Taken.{taken, passed_over}
use Rattle.mk_rules.proofs.entries.inference.Goals as goal
use Rattle.mk_rules.proofs.entries.inference.Goals.{then-branch+in_ok-join, else-branch}

pub loop-entry-preserved : goal.loop-entry-preserved
loop-entry-preserved c =
    elim c.if-branch.branch [
      | then-branch+in_ok-join w ↦
          ap (λ s. s.keys) w.names-is
          ∙ w.in_ok-join.ensures
          ∙ ap (kept same_name c.loop-entry.names.keys) w.targets.ensures
          ∙ ap (λ front. kept same_name front c.entry-item.result.targets) c.loop-entry.invariant
          ∙ taken (is_inference_rule c.args.suffixes.now.keys) (λ e. e.targets) c.args.entries.now c.loop-entry.entry-index c.entry-item.result c.loop-entry-test.true c.entry-item.is
          (sym c.in_ok-is_inference_rule.ensures ∙ w.if-branch.true)
      | else-branch w ↦
          ap (λ s. s.keys) w.names-is
          ∙ c.loop-entry.invariant
          ∙ passed_over (is_inference_rule c.args.suffixes.now.keys) (λ e. e.targets) c.args.entries.now c.loop-entry.entry-index c.entry-item.result c.loop-entry-test.true c.entry-item.is
          (sym c.in_ok-is_inference_rule.ensures ∙ w.if-branch.false)
    ]
