use Rattle.std.proofs.Common.{◌∙◌, ◌+◌, ap, subst, length}
use Rattle.mk_macro.specs.Expansion.{byte_limit}
use Rattle.mk_macro.specs.Layer.{Layer, longer, size}
use Rattle.mk_macro.specs.Limits.{IsOver}
use Rattle.mk_macro.specs.Substitution.{changed}
use Rattle.mk_macro.proofs.Layers.{closed_parts, closed_parts_over}
use Rattle.mk_macro.proofs.Over.{ok_both, err_more}
use Rattle.mk_macro.proofs.output.Output.close.Goals as goal

pub returns-clause-closed : goal.returns-clause-closed
returns-clause-closed c =
    let given = changed c.change.result.now c.kept.result.now in
    let change_is = c.change.ensures ∙ ap (λ (l : Layer). l.change) c.replace-inner.ensures.value in
    let kept_is = c.kept.ensures ∙ ap (λ (l : Layer). l.kept) c.replace-inner.ensures.value in
    let given_is = ap (λ x. changed x c.kept.result.now) change_is ∙ ap (changed c.self.inside.top.change) kept_is in
    ok_both c.push.result c.push.ensures.text c.push.ensures.within
    (λ put within. closed_parts _ _ c.pop.new.self.items c.in-Some.outer given c.self.view_is c.in-Some.ensures.items given_is c.push.new.self (put ∙ ap (λ l. longer l given) c.replace-inner.ensures.after) within)

pub returns-clause-over : goal.returns-clause-over
returns-clause-over c =
    let given = changed c.change.result.now c.kept.result.now in
    let change_is = c.change.ensures ∙ ap (λ (l : Layer). l.change) c.replace-inner.ensures.value in
    let kept_is = c.kept.ensures ∙ ap (λ (l : Layer). l.kept) c.replace-inner.ensures.value in
    let given_is = ap (λ x. changed x c.kept.result.now) change_is ∙ ap (changed c.self.inside.top.change) kept_is in
    err_more c.push.result c.push.ensures.over
    (λ halt over. closed_parts_over _ _ c.pop.new.self.items c.in-Some.outer given c.self.view_is c.in-Some.ensures.items given_is halt
    (subst (λ (l : Layer). IsOver halt byte_limit (size l + length given)) c.replace-inner.ensures.after over))
