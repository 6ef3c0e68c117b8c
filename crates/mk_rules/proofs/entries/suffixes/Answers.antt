use Rattle.std.proofs.Common.{◌≡◌, true, [], filter, length, ◌==◌, if◌then◌else◌, sym, ◌∙◌, ap, take}
use Rattle.std.proofs.lemmas.List.Elements.{All-same}
use Rattle.mk_name.specs.Names.{kept, same_name}
use Rattle.mk_rules.specs.Special.{is_suffix}
use Rattle.mk_rules.proofs.Taken.{all_suffixes, suffixes_taken, suffixes_passed_over}
use Rattle.mk_rules.proofs.entries.suffixes.Goals as goal
use Rattle.mk_rules.proofs.entries.suffixes.Goals.{then-names_target+in_ok-note_suffixes, else-names_target}

pub loop-entry-preserved : goal.loop-entry-preserved
loop-entry-preserved c =
    elim c.if-names_target.branch [
      | then-names_target+in_ok-note_suffixes w ↦
          ap (λ s. s.keys) w.suffixes-is
          ∙ w.in_ok-note_suffixes.ensures
          ∙ ap (λ names. if length names == 0 then [] else kept same_name c.loop-entry.suffixes.keys (filter is_suffix names)) w.prerequisites.ensures
          ∙ ap (λ front. if length c.entry-item.result.prerequisites == 0 then [] else kept same_name front (filter is_suffix c.entry-item.result.prerequisites)) c.loop-entry.invariant
          ∙ sym (suffixes_taken c.args.entries.now c.loop-entry.entry-index c.entry-item.result c.loop-entry-test.true c.entry-item.is
          (sym c.names_target.ensures ∙ w.if-names_target.true))
      | else-names_target w ↦
          ap (λ s. s.keys) w.suffixes-is
          ∙ c.loop-entry.invariant
          ∙ sym (suffixes_passed_over c.args.entries.now c.loop-entry.entry-index c.entry-item.result c.loop-entry-test.true c.entry-item.is
          (sym c.names_target.ensures ∙ w.if-names_target.false))
    ]

pub returns-clause-suffixes : goal.returns-clause-suffixes
returns-clause-suffixes c = All-same (λ s. is_suffix s ≡ true) _ _ c.loop-entry.invariant (all_suffixes (take c.loop-entry.entry-index c.args.entries.now))
