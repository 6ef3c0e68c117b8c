use Rattle.std.proofs.Common.{◌≡◌, ◌==◌, ◌∙◌, ℕ, List, [], length, subst, sym, true}
use Rattle.mk_race.proofs.Fixings.{empty_is, fixed_by_none, none_holds}
use Rattle.mk_race.proofs.fixing.fix_with.Goals as goal

pub returns-then-is_empty-clause-answer : goal.returns-then-is_empty-clause-answer
returns-then-is_empty-clause-answer c =
    let none : c.in_ok-edges.edges.items ≡ [] =
    empty_is c.in_ok-edges.edges.items (subst (λ (es : List (ℕ × ℕ)). (length es == 0) ≡ true) c.as_slice.ensures.value (sym c.is_empty.ensures ∙ c.if-is_empty.true)) in
    λ texts lines from prepared build same.
    fixed_by_none c.args.jobs c.in_ok-edges.edges.items c.in_ok-edges.ensures.fix c.in_ok-edges.ensures.few none
    texts lines _ prepared c.new.ensures.items same build

pub returns-then-is_empty-clause-safe : goal.returns-then-is_empty-clause-safe
returns-then-is_empty-clause-safe c =
    let none : c.in_ok-edges.edges.items ≡ [] =
    empty_is c.in_ok-edges.edges.items (subst (λ (es : List (ℕ × ℕ)). (length es == 0) ≡ true) c.as_slice.ensures.value (sym c.is_empty.ensures ∙ c.if-is_empty.true)) in
    none_holds c.args.jobs c.in_ok-edges.edges.items c.in_ok-edges.ensures.fix c.in_ok-edges.ensures.few none c.count-count.ensures.valid

pub returns-clause-answer : goal.returns-clause-answer
returns-clause-answer c = λ texts lines from prepared build same. c.in_ok-with_edges.ensures.answer texts lines from
