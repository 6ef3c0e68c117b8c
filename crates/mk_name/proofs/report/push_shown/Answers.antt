use Rattle.std.proofs.Common.{rules, sym, ◌∙◌}
use Rattle.mk_name.proofs.Visible.{shown_visible}
use Rattle.mk_name.proofs.report.push_shown.Goals as goal

pub returns-then-is_all_visible : goal.returns-then-is_all_visible
returns-then-is_all_visible c =
    rw (shown_visible c.args.name.now (sym c.is_all_visible.ensures ∙ c.if-is_all_visible.true)) (search rules)
