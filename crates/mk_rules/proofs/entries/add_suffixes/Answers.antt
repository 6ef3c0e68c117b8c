use Rattle.std.proofs.Common.{sym, ◌∙◌, ap}
use Rattle.indexmap.specs.IndexSet.{insert_key}
use Rattle.mk_name.specs.Names.{same_name}
use Rattle.mk_rules.proofs.Taken.{suffix_added, no_suffix}
use Rattle.mk_rules.proofs.entries.add_suffixes.Goals as goal
use Rattle.mk_rules.proofs.entries.add_suffixes.Goals.{then-is_suffix+in_ok-copy+in_ok-insert, else-is_suffix}

pub loop-name-preserved : goal.loop-name-preserved
loop-name-preserved c =
    elim c.if-is_suffix.branch [
      | then-is_suffix+in_ok-copy+in_ok-insert w ↦
          ap (λ s. s.keys) w.suffixes-is
          ∙ w.in_ok-insert.ensures.keys
          ∙ ap (insert_key same_name c.loop-name.suffixes.keys) w.in_ok-copy.ensures
          ∙ ap (λ keys. insert_key same_name keys c.name-item.result) c.loop-name.invariant
          ∙ suffix_added c.args.suffixes.now.keys c.args.names.now c.loop-name.name-index c.name-item.result c.loop-name-test.true c.name-item.is
          (sym c.is_suffix.ensures ∙ w.if-is_suffix.true)
      | else-is_suffix w ↦
          ap (λ s. s.keys) w.suffixes-is
          ∙ c.loop-name.invariant
          ∙ no_suffix c.args.suffixes.now.keys c.args.names.now c.loop-name.name-index c.name-item.result c.loop-name-test.true c.name-item.is
          (sym c.is_suffix.ensures ∙ w.if-is_suffix.false)
    ]
