-- The least of some names.
use Rattle.std.proofs.Common.{◌≡◌, ℕ, ◌+◌, Bool, true, false, List, get_or, sym, ◌∙◌, ap, subst, inl, inr, refl, arith, Some, None, Option}
use Rattle.std.specs.Prelude.{IsTrue}
use Rattle.std.specs.declared.cmp.Ordering.{Ordering}
use Rattle.std.specs.declared.cmp.Ordering.TheVariants.{Less, Equal, Greater}
use Rattle.std.specs.Ordering.{is_le, is_gt, nat_cmp, ordering_reverse}
use Rattle.std.specs.Cmp.Lexicographic.{slice_cmp, nat_list_cmp_total}
use Rattle.std.proofs.lemmas.Cmp.{upto as std_upto, tied_itself}
use Rattle.std.proofs.lemmas.Bool.{both_ways, cases_eq}
use Rattle.mk_name.specs.Names.{Name}
use Rattle.mk_graph.specs.Least.{upto, IsLeastPassing, IsLeastPlace}
use Rattle.mk_jobs.specs.Numbered.{name_at}

le_not_gt : (o : Ordering) → is_le o ≡ true → is_gt o ≡ false
le_not_gt Less h = refl
le_not_gt Equal h = refl
le_not_gt Greater h = absurd (both_ways _ refl h)

not_gt_le : (o : Ordering) → is_gt o ≡ false → is_le o ≡ true
not_gt_le Less h = refl
not_gt_le Equal h = refl
not_gt_le Greater h = absurd (both_ways _ h refl)

reversed_le : (o : Ordering) → is_le o ≡ false → is_le (ordering_reverse o) ≡ true
reversed_le Less h = absurd (both_ways _ h refl)
reversed_le Equal h = absurd (both_ways _ h refl)
reversed_le Greater h = refl

pub upto_self : (a : Name) → IsTrue (upto a a)
upto_self a = ap is_le (tied_itself nat_list_cmp_total a)

pub upto_trans : (a b c : Name) → IsTrue (upto a b) → IsTrue (upto b c) → IsTrue (upto a c)
upto_trans a b c h g = not_gt_le _ (std_upto nat_list_cmp_total a b c (le_not_gt _ h) (le_not_gt _ g))

pub upto_other : (a b : Name) → upto a b ≡ false → IsTrue (upto b a)
upto_other a b h = ap is_le (nat_list_cmp_total.antisymm b a) ∙ reversed_le (slice_cmp nat_cmp a b) h

module _ (test : Name → Bool) (names : List Name) (i : ℕ) where
  pub pass_skip : (o : Option ℕ) → test (name_at names i) ≡ false → IsLeastPassing test names i o → IsLeastPassing test names (i + 1) o
  pass_skip None f p = λ k h. elim (cases_eq k i) [ inl e ↦ subst (λ (n : ℕ). test (name_at names n) ≡ false) (sym e) f | inr n ↦ p k (omega arith) ]
  pass_skip (Some b) f p = (omega (arith, p.0), p.1, λ k h t. elim (cases_eq k i) [ inl e ↦ absurd (both_ways _ f (subst (λ (n : ℕ). test (name_at names n) ≡ true) e t)) | inr n ↦ p.2 k (omega arith) t ])

  pub pass_first : (o : Option ℕ) → ((b : ℕ) → o ≡ Some b → ⊥) → test (name_at names i) ≡ true → IsLeastPassing test names i o → IsLeastPassing test names (i + 1) (Some i)
  pass_first None n t p = (omega arith, t, λ k h s. elim (cases_eq k i) [ inl e ↦ subst (λ (m : ℕ). IsTrue (upto (name_at names i) (name_at names m))) (sym e) (upto_self (name_at names i)) | inr d ↦ absurd (both_ways _ (p k (omega arith)) s) ])
  pass_first (Some b) n t p = absurd (n b refl)

  pub pass_keep : (b : ℕ) → IsTrue (upto (name_at names b) (name_at names i)) → IsLeastPassing test names i (Some b) → IsLeastPassing test names (i + 1) (Some b)
  pass_keep b u p = (omega (arith, p.0), p.1, λ k h t. elim (cases_eq k i) [ inl e ↦ subst (λ (m : ℕ). IsTrue (upto (name_at names b) (name_at names m))) (sym e) u | inr n ↦ p.2 k (omega arith) t ])

  pub pass_take : (b : ℕ) → upto (name_at names b) (name_at names i) ≡ false → test (name_at names i) ≡ true → IsLeastPassing test names i (Some b) → IsLeastPassing test names (i + 1) (Some i)
  pass_take b u t p = (
    omega arith,
    t,
    λ k h s. elim (cases_eq k i) [
      | inl e ↦ subst (λ (m : ℕ). IsTrue (upto (name_at names i) (name_at names m))) (sym e) (upto_self (name_at names i))
      | inr n ↦ upto_trans (name_at names i) (name_at names b) (name_at names k) (upto_other (name_at names b) (name_at names i) u) (p.2 k (omega arith) s)
    ],
  )

module _ (names : List Name) (ring : List ℕ) where
  pub place_first : IsLeastPlace names ring 1 0
  place_first = (omega arith, λ k h. let e : k ≡ 0 = omega arith in subst (λ (m : ℕ). IsTrue (upto (name_at names (get_or ring 0 0)) (name_at names (get_or ring m 0)))) (sym e) (upto_self (name_at names (get_or ring 0 0))))

  pub place_keep : (i b : ℕ) → IsTrue (upto (name_at names (get_or ring b 0)) (name_at names (get_or ring i 0))) → IsLeastPlace names ring i b → IsLeastPlace names ring (i + 1) b
  place_keep i b u p = (omega (arith, p.0), λ k h. elim (cases_eq k i) [ inl e ↦ subst (λ (m : ℕ). IsTrue (upto (name_at names (get_or ring b 0)) (name_at names (get_or ring m 0)))) (sym e) u | inr n ↦ p.1 k (omega arith) ])

  pub place_take : (i b : ℕ) → upto (name_at names (get_or ring b 0)) (name_at names (get_or ring i 0)) ≡ false → IsLeastPlace names ring i b → IsLeastPlace names ring (i + 1) i
  place_take i b u p = (
    omega arith,
    λ k h. elim (cases_eq k i) [
      | inl e ↦ subst (λ (m : ℕ). IsTrue (upto (name_at names (get_or ring i 0)) (name_at names (get_or ring m 0)))) (sym e) (upto_self (name_at names (get_or ring i 0)))
      | inr n ↦ upto_trans (name_at names (get_or ring i 0)) (name_at names (get_or ring b 0)) (name_at names (get_or ring k 0)) (upto_other (name_at names (get_or ring b 0)) (name_at names (get_or ring i 0)) u) (p.1 k (omega arith))
    ],
  )
