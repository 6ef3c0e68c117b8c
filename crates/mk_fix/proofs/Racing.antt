-- The races among some of all clashing pairs.
use Rattle.std.proofs.Common.{ℕ, ◌≡◌, ◌<◌, ◌+◌, ◌-◌, List, [], ◌∷◌, ◌++◌, Contains, length, get_or, Less, sym, ap, subst, ◌∙◌, inl, inr, arith}
use Rattle.std.specs.List.Sorted.{IsStrictlySortedBy}
use Rattle.std.proofs.lemmas.Bool.{cases_lt}
use Rattle.std.proofs.lemmas.List.{get_or_default}
use Rattle.std.proofs.lemmas.List.Elements.{Contains-append_left, Contains-get_or, Contains-push, Contains-push_cases}
use Rattle.std.proofs.lemmas.Map.Keys.{Less-from_sorted}
use Rattle.mk_jobs.specs.Jobs.{Jobs}
use Rattle.mk_proof.specs.Shapes.{pair_cmp}
use Rattle.mk_proof.proofs.Risen.{pair_cmp_total, sorted_push}
use Rattle.mk_decide.specs.Pairs.{ArePairs, PairsRise}
use Rattle.mk_decide.specs.Races.{IsRace}
use Rattle.mk_fix.specs.AllRaces.{AreRaces}

-- of the first pairs just those that are races, in order
pub record AreRacesSoFar (jobs : Jobs) (pairs : List (ℕ × ℕ)) (i : ℕ) (races : List (ℕ × ℕ)) : Type 0 where
  pub rise : PairsRise races
  pub from : (p : ℕ × ℕ) → Contains races p → (k : ℕ) × (k < i) × (k < length pairs) × (get_or pairs k p ≡ p)
  pub are : (p : ℕ × ℕ) → Contains races p → IsRace jobs p.0 p.1
  pub all : (k : ℕ) → k < i → IsRace jobs (get_or pairs k (0, 0)).0 (get_or pairs k (0, 0)).1 → Contains races (get_or pairs k (0, 0))

pub none_so_far : (jobs : Jobs) (pairs : List (ℕ × ℕ)) → AreRacesSoFar jobs pairs 0 []
unfolding IsStrictlySortedBy
none_so_far jobs pairs = record {
  rise = tt;
  from = λ p h. absurd (let no = h.1 in omega (arith, no));
  are = λ p h. absurd (let no = h.1 in omega (arith, no));
  all = λ k below. absurd (omega (arith, below));
}

-- a pair that is no race
pub passed_over : (jobs : Jobs) (pairs races : List (ℕ × ℕ)) (i : ℕ) → AreRacesSoFar jobs pairs i races
    → (IsRace jobs (get_or pairs i (0, 0)).0 (get_or pairs i (0, 0)).1 → ⊥) → AreRacesSoFar jobs pairs (i + 1) races
passed_over jobs pairs races i so_far none = record {
  rise = so_far.rise;
  from = λ p h. let k = so_far.from p h in (k.0, (let less = k.1 in omega (arith, less)), k.2, k.3);
  are = so_far.are;
  all = λ k below race. elim (cases_lt k i) [
    | inl less ↦ so_far.all k less race
    | inr past ↦ absurd (none (subst (λ (n : ℕ). IsRace jobs (get_or pairs n (0, 0)).0 (get_or pairs n (0, 0)).1) (let e : k ≡ i = omega (arith, past, below) in e) race))
  ];
}

last_less : (jobs : Jobs) (pairs races : List (ℕ × ℕ)) (i : ℕ) → PairsRise pairs → AreRacesSoFar jobs pairs i races → i < length pairs → 0 < length races
    → pair_cmp (get_or races (length races - 1) (get_or pairs i (0, 0))) (get_or pairs i (0, 0)) ≡ Less
last_less jobs pairs races i rise so_far inside some =
    let p = get_or races (length races - 1) (get_or pairs i (0, 0)) in
    let k = so_far.from p (Contains-get_or races (length races - 1) (get_or pairs i (0, 0)) (omega (arith, some))) in
    ap (λ (q : ℕ × ℕ). pair_cmp q (get_or pairs i (0, 0))) (sym k.3) ∙ ap (λ (q : ℕ × ℕ). pair_cmp (get_or pairs k.0 p) q) (get_or_default pairs i (0, 0) p inside)
    ∙ Less-from_sorted pair_cmp pairs k.0 i p rise k.1 inside

-- a pair that is one
pub one_more : (jobs : Jobs) (pairs races : List (ℕ × ℕ)) (i : ℕ) → PairsRise pairs → AreRacesSoFar jobs pairs i races → i < length pairs
    → IsRace jobs (get_or pairs i (0, 0)).0 (get_or pairs i (0, 0)).1 → AreRacesSoFar jobs pairs (i + 1) (races ++ get_or pairs i (0, 0) ∷ [])
one_more jobs pairs races i rise so_far inside race =
    let new = get_or pairs i (0, 0) in
    record {
      rise = sorted_push pair_cmp pair_cmp_total races new so_far.rise (last_less jobs pairs races i rise so_far inside);
      from = λ p h. elim (Contains-push_cases races new p h) [
        | inl old ↦ let k = so_far.from p old in (k.0, (let less = k.1 in omega (arith, less)), k.2, k.3)
        | inr same ↦ (i, omega arith, inside, get_or_default pairs i p (0, 0) inside ∙ same)
      ];
      are = λ p h. elim (Contains-push_cases races new p h) [
        | inl old ↦ so_far.are p old
        | inr same ↦ subst (λ (q : ℕ × ℕ). IsRace jobs q.0 q.1) same race
      ];
      all = λ k below is. elim (cases_lt k i) [
        | inl less ↦ Contains-append_left races (new ∷ []) (get_or pairs k (0, 0)) (so_far.all k less is)
        | inr past ↦ subst (λ (n : ℕ). Contains (races ++ new ∷ []) (get_or pairs n (0, 0))) (let e : i ≡ k = omega (arith, past, below) in e) (Contains-push races new)
      ];
    }

-- of all pairs
pub all_are : (jobs : Jobs) (pairs races : List (ℕ × ℕ)) → ArePairs jobs pairs → AreRacesSoFar jobs pairs (length pairs) races → AreRaces jobs races
all_are jobs pairs races pairs_are so_far = record {
  rise = so_far.rise;
  races_are = λ a b. (
    λ h. so_far.are (a, b) h,
    λ race.
        let at = (pairs_are.clash a b).1 (race.rises, race.clash) in
        let is : get_or pairs at.0 (0, 0) ≡ (a, b) = get_or_default pairs at.0 (0, 0) (a, b) at.1 ∙ at.2 in
        subst (λ (q : ℕ × ℕ). Contains races q) is (so_far.all at.0 at.1 (subst (λ (q : ℕ × ℕ). IsRace jobs q.0 q.1) (sym is) race)),
  );
}
