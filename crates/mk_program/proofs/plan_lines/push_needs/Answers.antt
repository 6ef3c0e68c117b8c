use Rattle.std.proofs.Common.{◌∙◌, ap, get_or, ◌++◌, List, ℕ}
use Rattle.mk_name.specs.Shown.{shown}
use Rattle.mk_program.proofs.PlanLines.{in_at, name_at_is, needs_step}
use Rattle.mk_program.proofs.plan_lines.push_needs.Goals as goal

pub name-requires : goal.name-requires
name-requires c = c.requires _ (in_at c.args.needs.now c.loop-number.number-index _ c.loop-number-test.true)

pub loop-number-preserved : goal.loop-number-preserved
loop-number-preserved c =
    let number = get_or c.args.needs.now c.loop-number.number-index 0 in
    let named = name_at_is c.args.plan.now.nodes number c.name.result.now (c.requires _ (in_at c.args.needs.now c.loop-number.number-index 0 c.loop-number-test.true)) c.name.ensures in
    needs_step c.args.plan.now.nodes c.args.needs.now c.loop-number.number-index _ c.loop-number.out.items _ _ c.name.result.now c.loop-number-test.true
    c.loop-number.invariant c.in_ok-push.ensures.items (c.in_ok-push_shown.ensures.shown ∙ ap (λ (l : List ℕ). c.push.new.self.items ++ shown l) c.as_bytes.ensures) named
