use Rattle.std.proofs.Common.{◌∙◌, sym, refl, inl, inr, arith}
use Rattle.mk_sched.proofs.Deciding.{no, yes}
use Rattle.mk_sched.proofs.judge.start_refusal.Goals as goal

pub returns-then-has_begun : goal.returns-then-has_begun
returns-then-has_begun c = inl (sym c.has_begun.ensures ∙ c.if-has_begun.true, refl)

pub returns-then-is_unready : goal.returns-then-is_unready
returns-then-is_unready c = inr (no _ _ c.has_begun.ensures c.if-has_begun.false, inl (sym c.is_unready.ensures ∙ c.if-is_unready.true, refl))

pub returns-then-not-has_recipe : goal.returns-then-not-has_recipe
returns-then-not-has_recipe c = inr (no _ _ c.has_begun.ensures c.if-has_begun.false, inr (no _ _ c.is_unready.ensures c.if-is_unready.false, inl (sym c.has_recipe.ensures ∙ c.if-not-has_recipe.true, refl)))

pub returns-then-not-is_stale : goal.returns-then-not-is_stale
returns-then-not-is_stale c = inr (no _ _ c.has_begun.ensures c.if-has_begun.false, inr (no _ _ c.is_unready.ensures c.if-is_unready.false, inr (yes _ _ c.has_recipe.ensures c.if-not-has_recipe.false, inl (sym c.is_stale.ensures ∙ c.if-not-is_stale.true, refl))))

pub returns-then-state-limit : goal.returns-then-state-limit
returns-then-state-limit c = inr (no _ _ c.has_begun.ensures c.if-has_begun.false, inr (no _ _ c.is_unready.ensures c.if-is_unready.false, inr (yes _ _ c.has_recipe.ensures c.if-not-has_recipe.false, inr (yes _ _ c.is_stale.ensures c.if-not-is_stale.false, inl (omega (arith, c.if-state-limit.true, c.requires.counted), refl)))))

pub returns : goal.returns
returns c = inr (no _ _ c.has_begun.ensures c.if-has_begun.false, inr (no _ _ c.is_unready.ensures c.if-is_unready.false, inr (yes _ _ c.has_recipe.ensures c.if-not-has_recipe.false, inr (yes _ _ c.is_stale.ensures c.if-not-is_stale.false, inr (λ full. omega (arith, c.if-state-limit.false, c.requires.counted, full), refl)))))
