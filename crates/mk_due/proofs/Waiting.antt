-- Who waits for some nodes waits for just those to which chains of prerequisites lead.
use Rattle.std.proofs.Common.{ℕ, ◌≡◌, ◌∙◌, ◌<◌, ◌≤◌, ◌↔◌, Bool, true, false, List, [], arith, get_or, length, map, refl, sym, ap, subst, inl, inr}
use Rattle.std.specs.Prelude.{◌&&◌, ◌||◌, nat_eq}
use Rattle.std.proofs.lemmas.Bool.{and_parts, both_ways, cases_Bool, cases_lt, or_cases, or_left, or_right}
use Rattle.std.proofs.lemmas.List.{get_or-map, get_or_past, length-map}
use Rattle.mk_name.specs.Names.{has}
use Rattle.mk_jobs.specs.Plan.{NeedsStandBefore, Node, nobody}
use Rattle.mk_due.specs.Awaited.{AwaitedIsWaited, IsWaited, at_once, is_awaited, needs_at, through, with_needs}
use Rattle.mk_due.proofs.Awaiting.{needs_more}

-- what is marked is in the test, or a chain leads to it
from_marks : (nodes : List Node) (waits : List ℕ) (n : ℕ) (test : ℕ → Bool) (p : ℕ) → ((q : ℕ) → test q ≡ true → IsWaited nodes waits q)
    → with_needs nodes n test p ≡ true → IsWaited nodes waits p
from_marks nodes waits ℕ.zero test p all is = all p is
from_marks nodes waits (ℕ.suc n) test p all is =
    from_marks nodes waits n _ p (λ q h. elim (or_cases (test q) (test n && has nat_eq (needs_at nodes n) q) h) [
      | inl here ↦ all q here
      | inr both ↦ let parts = and_parts (test n) (has nat_eq (needs_at nodes n) q) both in through (all n parts.0) parts.1
    ]) is

-- who is needed has a smaller number than who needs it, which is that of a node
need_at : (nodes : List Node) (n p : ℕ) → NeedsStandBefore nodes → has nat_eq (needs_at nodes n) p ≡ true → (n < length nodes) × (p < n)
need_at nodes n p behind need = elim (cases_lt n (length nodes)) [
  | inl inside ↦
      let same = get_or-map (λ (node : Node). node.prerequisites) nodes n nobody [] inside in
      (inside, behind n p nobody inside (subst (λ (ps : List ℕ). has nat_eq ps p ≡ true) same need))
  | inr past ↦
      let none : needs_at nodes n ≡ [] = get_or_past (map (λ (node : Node). node.prerequisites) nodes) n [] (subst (λ k. k ≤ n) (sym (length-map nodes (λ (node : Node). node.prerequisites))) past) in
      absurd (both_ways false refl (subst (λ (ps : List ℕ). has nat_eq ps p ≡ true) none need))
]

-- past the first so many nodes a test stays as it was
same_past : (nodes : List Node) (n : ℕ) (test : ℕ → Bool) (p : ℕ) → NeedsStandBefore nodes → n ≤ p → with_needs nodes n test p ≡ test p
same_past nodes ℕ.zero test p behind past = refl
same_past nodes (ℕ.suc n) test p behind past = same_past nodes n _ p behind (omega (arith, past)) ∙ by (has nat_eq (needs_at nodes n) p) refl
  where
    and_false : (b : Bool) → (b && false) ≡ false
    and_false true = refl
    and_false false = refl

    or_false : (b : Bool) → (b || false) ≡ b
    or_false true = refl
    or_false false = refl

    by : (b : Bool) → has nat_eq (needs_at nodes n) p ≡ b → (test p || (test n && has nat_eq (needs_at nodes n) p)) ≡ test p
    by true e = let at = need_at nodes n p behind e in absurd (omega (arith, past, at.1))
    by false e = ap (λ b. test p || (test n && b)) e ∙ ap (λ b. test p || b) (and_false (test n)) ∙ or_false (test p)

-- what a marked node stands behind is marked
closed : (nodes : List Node) (n : ℕ) (test : ℕ → Bool) (m p : ℕ) → NeedsStandBefore nodes → m < n → with_needs nodes n test m ≡ true
    → has nat_eq (needs_at nodes m) p ≡ true → with_needs nodes n test p ≡ true
closed nodes ℕ.zero test m p behind below is need = absurd (omega (arith, below))
closed nodes (ℕ.suc n) test m p behind below is need = elim (cases_lt m n) [
  | inl less ↦ closed nodes n _ m p behind less is need
  | inr past ↦
      let same : m ≡ n = omega (arith, below, past) in
      let marked : (test m || (test n && has nat_eq (needs_at nodes n) m)) ≡ true = sym (same_past nodes n _ m behind past) ∙ is in
      let here : test n ≡ true = elim (or_cases (test m) (test n && has nat_eq (needs_at nodes n) m) marked) [
        | inl at ↦ subst (λ k. test k ≡ true) same at
        | inr both ↦ (and_parts (test n) (has nat_eq (needs_at nodes n) m) both).0
      ] in
      let both : (test n && has nat_eq (needs_at nodes n) p) ≡ true =
      ap (λ b. b && has nat_eq (needs_at nodes n) p) here ∙ subst (λ k. has nat_eq (needs_at nodes k) p ≡ true) same need in
      needs_more nodes n _ p (or_right (test p) (test n && has nat_eq (needs_at nodes n) p) both)
]

to_marks : (nodes : List Node) (waits : List ℕ) {n : ℕ} → NeedsStandBefore nodes → IsWaited nodes waits n → is_awaited nodes waits n ≡ true
to_marks nodes waits behind (at_once {n} here) = needs_more nodes (length nodes) (has nat_eq waits) n here
to_marks nodes waits behind (through {m} {n} waited need) =
    closed nodes (length nodes) (has nat_eq waits) m n behind (need_at nodes m n behind need).0 (to_marks nodes waits behind waited) need

pub awaited : AwaitedIsWaited
awaited nodes waits n behind = (
  from_marks nodes waits (length nodes) (has nat_eq waits) n (λ q h. at_once h),
  to_marks nodes waits behind,
)
