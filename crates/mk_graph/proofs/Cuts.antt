-- Names cut at their last period.
use Rattle.std.proofs.Common.{◌≡◌, ℕ, suc, ◌≤◌, true, false, List, [], ◌∷◌, ◌++◌, length, take, drop, sym, ◌∙◌, ap, refl, inl, inr, arith, length-append}
use Rattle.std.specs.Prelude.{◌-◌, ◌||◌, ◌&&◌, ◌==◌, not}
use Rattle.std.specs.List.{list_any}
use Rattle.std.proofs.lemmas.Bool.{and_parts, both_ways, cases_Bool, cond-true, cond-false, eqb-true, not-true, or_parts}
use Rattle.std.proofs.lemmas.List.{length-drop, take-append-drop}
use Rattle.std.proofs.Math.Seq.{take-append_seam}
use Rattle.mk_name.specs.Names.{Name}
use Rattle.mk_rules.specs.Special.{is_suffix}
use Rattle.mk_graph.specs.Suffix.{from_last_period, is_period}
use Rattle.mk_graph.specs.Places.{before_last_period}
use Rattle.mk_graph.proofs.SuffixRules.{last_period}

-- where the last period stands, or the end
cut_at : (t : List ℕ) → (k : ℕ) × (k ≤ length t) × (from_last_period t ≡ drop k t)
cut_at [] = (0, omega arith, refl)
cut_at (b ∷ bs) =
    elim (cases_Bool (not (list_any is_period bs) && is_period b)) [
      | inl t ↦ (0, omega arith, cond-true _ (b ∷ bs) (from_last_period bs) t)
      | inr f ↦ let r = cut_at bs in (suc r.0, omega (arith, r.1), cond-false _ (b ∷ bs) (from_last_period bs) f ∙ r.2)
    ]

-- the two parts of a name
pub parts_join : (t : Name) → before_last_period t ++ from_last_period t ≡ t
parts_join t =
    let r = cut_at t in
    let long : length (from_last_period t) ≡ length t - r.0 = ap length r.2 ∙ length-drop r.0 t in
    let here : length t - length (from_last_period t) ≡ r.0 = omega (arith, long, r.1) in
    ap (λ n. take n t ++ from_last_period t) here ∙ ap (λ bs. take r.0 t ++ bs) r.2 ∙ take-append-drop r.0 t

-- a test that says more finds less
none_weaker : (bs : List ℕ) → list_any (λ b. b == 46 || b == 47) bs ≡ false → list_any is_period bs ≡ false
none_weaker [] h = refl
none_weaker (b ∷ bs) h =
    let parts = or_parts (b == 46 || b == 47) _ h in
    let here = or_parts (b == 46) (b == 47) parts.0 in
    ap (λ t. t || list_any is_period bs) here.0 ∙ none_weaker bs parts.1

-- a name that ends in a suffix is cut at it
pub last_of : (front s : Name) → is_suffix s ≡ true → from_last_period (front ++ s) ≡ s
last_of front [] h = absurd (both_ways _ refl h)
last_of front (b ∷ bs) h =
    let parts = and_parts (b == 46) _ h in
    let tail = and_parts (not (length bs == 0)) _ parts.1 in
    let is : b ≡ 46 = eqb-true b 46 parts.0 in
    ap (λ x. from_last_period (front ++ x ∷ bs)) is ∙ last_period front bs (none_weaker bs (not-true _ tail.1)) ∙ ap (λ x. x ∷ bs) (sym is)

pub front_of : (front s : Name) → is_suffix s ≡ true → before_last_period (front ++ s) ≡ front
front_of front s h =
    let long = length-append front s in
    let here : length (front ++ s) - length (from_last_period (front ++ s)) ≡ length front = omega (arith, ap length (last_of front s h), long) in
    ap (λ n. take n (front ++ s)) here ∙ take-append_seam front s

-- a suffix has bytes
pub suffix_some : (s : Name) → is_suffix s ≡ true → s ≡ [] → ⊥
suffix_some s h e = both_ways _ refl (ap is_suffix (sym e) ∙ h)
