use Rattle.std.proofs.Common.{◌∙◌, List, ◌++◌, subst, take}
use Rattle.std.proofs.lemmas.List.{take_all}
use Rattle.mk_name.specs.Names.{Name}
use Rattle.mk_graph.specs.Places.{AreRulePlaces, IsOld}
use Rattle.mk_graph.proofs.Tables.{blank, none_are, rules_more}
use Rattle.mk_graph.proofs.index.rule_places.Goals as goal

pub loop-rule-init : goal.loop-rule-init
loop-rule-init c = none_are (λ old new. new ++ old) (IsOld c.args.book.now.suffixes) c.args.book.now.suffixes c.new-table.result (blank c.new-table.result c.new-table.ensures.empty)

pub loop-rule-preserved : goal.loop-rule-preserved
loop-rule-preserved c =
    rules_more c.args.book.now.suffixes c.inference_rules-rule-items.result.now c.loop-rule.rule-index c.rule-item.result c.note_rule.new.table c.loop-rule-test.true c.rule-item.is
    (c.in_ok-note_rule.ensures (take c.loop-rule.rule-index c.inference_rules-rule-items.result.now) c.loop-rule.invariant)

pub returns : goal.returns
returns c =
    subst (λ (rules : List Name). AreRulePlaces c.args.book.now.suffixes rules c.loop-rule.table)
    (take_all c.loop-rule.rule-index c.inference_rules-rule-items.result.now c.loop-rule-test.false ∙ c.inference_rules-rule-items.ensures) c.loop-rule.invariant
