-- Numbers gathered in order, such as those of present nodes.
use Rattle.std.proofs.Common.{ℕ, ◌≡◌, ◌<◌, ◌≤◌, ◌+◌, ◌&&◌, ◌↔◌, not, Bool, true, false, List, [], ◌∷◌, ◌++◌, All, Contains, refl, sym, ap, subst, ◌∙◌, inl, inr, arith}
use Rattle.std.specs.List.Sorted.{IsStrictlyIncreasing}
use Rattle.std.proofs.lemmas.Bool.{and_from, and_parts, both_ways, cases_Bool, cases_lt}
use Rattle.std.proofs.lemmas.List.Elements.{All-push, All-weaker, Contains-append_left, Contains-push, Contains-push_cases}
use Rattle.mk_index.proofs.Placing.{rise_push}
use Rattle.mk_jobs.specs.Jobs.{Jobs, is_listed, is_live, is_phony, node_count}
use Rattle.mk_jobs.proofs.JobsLemmas.{live_node}
use Rattle.mk_missing.specs.Violations.{IsPresent}

-- those below a number for which this holds, in order
pub record AreThose (Holds : ℕ → Type 0) (found : List ℕ) (end : ℕ) : Type 0 where
  pub rise : IsStrictlyIncreasing found
  pub below : All (λ n. n < end) found
  pub exact : (n : ℕ) → Contains found n ↔ ((n < end) × Holds n)

abbrev pub present_test : Jobs → ℕ → Bool
present_test jobs n = is_live jobs n && not (is_phony jobs n) && is_listed jobs n

pub not_true : (b : Bool) → not b ≡ true → b ≡ false
not_true true is = cc
not_true false is = refl

pub test_is : (jobs : Jobs) (n : ℕ) (test : Bool) → test ≡ present_test jobs n → (test ≡ true) ↔ IsPresent jobs n
test_is jobs n test same = (
  λ so.
      let outer = and_parts (is_live jobs n && not (is_phony jobs n)) (is_listed jobs n) (sym same ∙ so) in
      let inner = and_parts (is_live jobs n) (not (is_phony jobs n)) outer.0 in
      record { live = inner.0; plain = not_true (is_phony jobs n) inner.1; listed = outer.1 },
  λ present. same ∙ and_from (is_live jobs n && not (is_phony jobs n)) (is_listed jobs n) (and_from (is_live jobs n) (not (is_phony jobs n)) present.live (ap not present.plain)) present.listed,
)

module _ (Holds : ℕ → Type 0) where
  pub those_none : (found : List ℕ) → found ≡ [] → AreThose Holds found 0
  those_none found is = subst (λ (ns : List ℕ). AreThose Holds ns 0) (sym is) (record {
    rise = λ k inside. absurd (omega (arith, inside));
    below = λ k d inside. absurd (omega (arith, inside));
    exact = λ n. (λ there. absurd (omega (arith, there.1)), λ is'. absurd (omega (arith, is'.0)));
  })

  pub those_more : (found new : List ℕ) (n : ℕ) (test : Bool) → AreThose Holds found n → (test ≡ true) ↔ Holds n
      → (test ≡ true → new ≡ found ++ n ∷ []) → (test ≡ false → new ≡ found) → AreThose Holds new (n + 1)
  those_more found new n test are is put same = elim (cases_Bool test) [
    | inl so ↦ subst (λ (ns : List ℕ). AreThose Holds ns (n + 1)) (sym (put so)) (record {
      rise = rise_push found n are.rise are.below;
      below = All-push (λ m. m < n + 1) found n (All-weaker (λ m. m < n) (λ m. m < n + 1) (λ m less. omega (arith, less)) found are.below) (omega arith);
      exact = λ m. (
        λ there. elim (Contains-push_cases found n m there) [
          | inl before ↦ let at = (are.exact m).0 before in (omega (arith, at.0), at.1)
          | inr last ↦ subst (λ k. (k < n + 1) × Holds k) last (omega arith, is.0 so)
        ],
        λ at. elim (cases_lt m n) [
          | inl less ↦ Contains-append_left found (n ∷ []) m ((are.exact m).1 (less, at.1))
          | inr least ↦ subst (Contains (found ++ n ∷ [])) (omega (arith, least, at.0)) (Contains-push found n)
        ],
      );
    })
    | inr nay ↦ subst (λ (ns : List ℕ). AreThose Holds ns (n + 1)) (sym (same nay)) (record {
      rise = are.rise;
      below = All-weaker (λ m. m < n) (λ m. m < n + 1) (λ m less. omega (arith, less)) found are.below;
      exact = λ m. (
        λ there. let at = (are.exact m).0 there in (omega (arith, at.0), at.1),
        λ at. elim (cases_lt m n) [
          | inl less ↦ (are.exact m).1 (less, at.1)
          | inr least ↦
              let here : m ≡ n = omega (arith, least, at.0) in
              absurd (both_ways test nay (is.1 (subst Holds here at.1)))
        ],
      );
    })
  ]

pub present_end : (jobs : Jobs) (found : List ℕ) (end : ℕ) → node_count jobs ≤ end → AreThose (IsPresent jobs) found end → (n : ℕ) → Contains found n ↔ IsPresent jobs n
present_end jobs found end past are n = (
  λ there. ((are.exact n).0 there).1,
  λ present. (are.exact n).1 (let inside = live_node jobs n present.live in omega (arith, inside, past), present),
)
