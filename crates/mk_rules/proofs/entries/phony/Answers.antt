use Rattle.std.proofs.Common.{sym, ◌∙◌, ap, codes}
use Rattle.mk_name.specs.Names.{kept, same_name}
use Rattle.mk_rules.specs.Book.{names_target}
use Rattle.mk_rules.proofs.Taken.{taken, passed_over}
use Rattle.mk_rules.proofs.entries.phony.Goals as goal
use Rattle.mk_rules.proofs.entries.phony.Goals.{then-names_target+in_ok-join, else-names_target}

pub loop-entry-preserved : goal.loop-entry-preserved
loop-entry-preserved c =
    elim c.if-names_target.branch [
      | then-names_target+in_ok-join w ↦
          ap (λ s. s.keys) w.names-is
          ∙ w.in_ok-join.ensures
          ∙ ap (kept same_name c.loop-entry.names.keys) w.prerequisites.ensures
          ∙ ap (λ front. kept same_name front c.entry-item.result.prerequisites) c.loop-entry.invariant
          ∙ taken (names_target (codes ".PHONY")) (λ e. e.prerequisites) c.args.entries.now c.loop-entry.entry-index c.entry-item.result c.loop-entry-test.true c.entry-item.is
          (sym c.names_target.ensures ∙ w.if-names_target.true)
      | else-names_target w ↦
          ap (λ s. s.keys) w.names-is
          ∙ c.loop-entry.invariant
          ∙ passed_over (names_target (codes ".PHONY")) (λ e. e.prerequisites) c.args.entries.now c.loop-entry.entry-index c.entry-item.result c.loop-entry-test.true c.entry-item.is
          (sym c.names_target.ensures ∙ w.if-names_target.false)
    ]
