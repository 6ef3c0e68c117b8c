use Rattle.std.proofs.Common.{◌∙◌, sym, refl, inl, inr}
use Rattle.mk_sched.proofs.Deciding.{no}
use Rattle.mk_sched.proofs.judge.skip_refusal.Goals as goal

pub returns-then-has_begun : goal.returns-then-has_begun
returns-then-has_begun c = λ limit. inl (sym c.has_begun.ensures ∙ c.if-has_begun.true, refl)

pub returns-then-is_unready : goal.returns-then-is_unready
returns-then-is_unready c = λ limit. inr (no _ _ c.has_begun.ensures c.if-has_begun.false, inl (sym c.is_unready.ensures ∙ c.if-is_unready.true, refl))

pub returns-then-must_run : goal.returns-then-must_run
returns-then-must_run c = λ limit. inr (no _ _ c.has_begun.ensures c.if-has_begun.false, inr (no _ _ c.is_unready.ensures c.if-is_unready.false, inl (sym c.must_run.ensures ∙ c.if-must_run.true, refl)))

pub returns : goal.returns
returns c = λ limit. inr (no _ _ c.has_begun.ensures c.if-has_begun.false, inr (no _ _ c.is_unready.ensures c.if-is_unready.false, inr (no _ _ c.must_run.ensures c.if-must_run.false, refl)))
