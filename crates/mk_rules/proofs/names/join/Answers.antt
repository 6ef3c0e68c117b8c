use Rattle.std.proofs.Common.{sym, ◌∙◌, ap}
use Rattle.std.specs.Cmp.Lexicographic.{nat_list_eq_equiv}
use Rattle.indexmap.specs.IndexSet.{insert_key}
use Rattle.mk_name.specs.Names.{same_name}
use Rattle.mk_rules.proofs.Firsts.{insert_key-present, kept_more}
use Rattle.mk_rules.proofs.names.join.Goals as goal
use Rattle.mk_rules.proofs.names.join.Goals.{then-not-contains+in_ok-copy+in_ok-insert, else-not-contains}

pub loop-name-preserved : goal.loop-name-preserved
loop-name-preserved c =
    kept_more same_name nat_list_eq_equiv _ _ _ _ _ c.name-item.result c.loop-name-test.true c.loop-name.invariant
    (elim c.if-not-contains.branch [
      | then-not-contains+in_ok-copy+in_ok-insert w ↦ ap (λ s. s.keys) w.joined-is ∙ w.in_ok-insert.ensures.keys ∙ ap (insert_key same_name c.loop-name.joined.keys) (w.in_ok-copy.ensures ∙ c.name-item.is)
      | else-not-contains w ↦ ap (λ s. s.keys) w.joined-is ∙ insert_key-present same_name nat_list_eq_equiv _ _ (sym w.if-not-contains.ensures) ∙ ap (insert_key same_name c.loop-name.joined.keys) c.name-item.is
    ])
