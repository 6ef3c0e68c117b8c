use Rattle.std.proofs.Common.{◌∙◌, ap, not, rules}
use Rattle.std.proofs.lemmas.Fn.{filter_same}
use Rattle.mk_rules.specs.Book.{without_waits}
use Rattle.mk_rules.specs.Special.{is_wait}
use Rattle.mk_rules.proofs.rule.Rule.without_waits.Goals as goal

pub returns : goal.returns
returns c =
    let kept = filter_same _ (λ p. not (is_wait p)) _ (λ x b f h. search rules) _ _ c.retain.ensures.filtered in
    ap (λ l. record {
      source = c.self.inside.source;
      line = c.self.inside.line;
      targets = c.self.inside.targets.items;
      prerequisites = l;
      has_commands = c.self.inside.has_commands;
    }) kept
    ∙ ap without_waits c.self.view_is
