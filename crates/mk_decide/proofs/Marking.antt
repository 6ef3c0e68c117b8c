-- Marks, filled in rising number.
use Rattle.std.proofs.Common.{ℕ, ◌≡◌, ◌<◌, ◌+◌, ◌||◌, ◌==◌, ◌↔◌, Bool, true, false, List, length, get_or, set, sym, subst, inl, inr, arith}
use Rattle.std.specs.List.{list_any, Any}
use Rattle.std.proofs.lemmas.Bool.{eqb-true, eq-eqb, or_cases, or_left, or_right, cases_order}
use Rattle.std.proofs.lemmas.List.{get_or-set_same, get_or-set_other}
use Rattle.std.proofs.lemmas.List.Folds.{Any-from_list_any, list_any-from_Any}
use Rattle.mk_jobs.specs.Jobs.{Jobs, Before, IsPrerequisite, IsValid, prerequisites_of}
use Rattle.mk_decide.specs.Paths.{IsFrom}
use Rattle.mk_decide.specs.Walked.{AreMarkedBehind}
use Rattle.mk_decide.proofs.Edges.{prerequisite_from, before_from}

-- a, or marked
abbrev pub is_from : ℕ → List Bool → ℕ → Bool
is_from a marks p = p == a || get_or marks p false

marked_is_from : (jobs : Jobs) (a x p : ℕ) (marks : List Bool) → AreMarkedBehind jobs a marks x → p < x → is_from a marks p ≡ true → IsFrom jobs a p
marked_is_from jobs a x p marks marked below test = elim (or_cases (p == a) (get_or marks p false) test) [
  | inl same ↦ inl (eqb-true p a same)
  | inr mark ↦ inr ((marked p below).0 mark)
]

from_is_marked : (jobs : Jobs) (a x p : ℕ) (marks : List Bool) → AreMarkedBehind jobs a marks x → p < x → IsFrom jobs a p → is_from a marks p ≡ true
from_is_marked jobs a x p marks marked below (inl same) = or_left (p == a) (get_or marks p false) (eq-eqb p a same)
from_is_marked jobs a x p marks marked below (inr before) = or_right (p == a) (get_or marks p false) ((marked p below).1 before)

-- a node has a before it just where one of its prerequisites is a or marked
pub has_from : (jobs : Jobs) (a x : ℕ) (marks : List Bool) → IsValid jobs → AreMarkedBehind jobs a marks x
    → (list_any (is_from a marks) (prerequisites_of jobs x) ≡ true) ↔ Before jobs a x
has_from jobs a x marks valid marked =
    let nodes = prerequisites_of jobs x in (
      λ found.
          let any : Any (λ p. is_from a marks p ≡ true) nodes = Any-from_list_any (is_from a marks) nodes found in
          let step : IsPrerequisite jobs any.1 x = (any.0, any.2, any.3) in
          before_from jobs a any.1 x step (marked_is_from jobs a x any.1 marks marked (valid.smaller x any.1 step) any.4),
      λ before.
          let last = prerequisite_from jobs a x before in
          let test = from_is_marked jobs a x last.node marks marked (valid.smaller x last.node last.edge) last.from in
          list_any-from_Any (is_from a marks) nodes (last.edge.0, last.node, last.edge.1, last.edge.2, test),
    )

-- one node more
pub marked_more : (jobs : Jobs) (a x : ℕ) (marks : List Bool) (mark : Bool) → x < length marks → AreMarkedBehind jobs a marks x
    → (mark ≡ true) ↔ Before jobs a x → AreMarkedBehind jobs a (set marks x mark) (x + 1)
marked_more jobs a x marks mark here marked is = λ y below. elim (cases_order y x) [
  | inl same ↦ subst (λ n. (get_or (set marks x mark) n false ≡ true) ↔ Before jobs a n) (sym same)
      (subst (λ (m : Bool). (m ≡ true) ↔ Before jobs a x) (sym (get_or-set_same marks x mark false here)) is)
  | inr (inl less) ↦ subst (λ (m : Bool). (m ≡ true) ↔ Before jobs a y) (sym (get_or-set_other marks x y mark false (λ same. absurd (omega (arith, same, less))))) (marked y less)
  | inr (inr more) ↦ absurd (omega (arith, below, more))
]
