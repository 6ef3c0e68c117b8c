-- The direct races are a fix.
use Rattle.std.proofs.Common.{ℕ, zero, suc, ◌≡◌, ◌<◌, ◌+◌, List, ◌∷◌, ◌++◌, Contains, length, get_or, Less, Equal, refl, sym, ap, ap₂, subst, ◌∙◌, inl, inr, arith, lt_trans}
use Rattle.std.specs.Cmp.{nat_cmp_is}
use Rattle.std.specs.Ordering.{nat_cmp, ordering_then}
use Rattle.std.proofs.lemmas.Bool.{cases_order}
use Rattle.std.proofs.lemmas.List.{get_or_append_left, get_or-append-add, length-append}
use Rattle.std.proofs.lemmas.List.Elements.{Contains-append_cases, Contains-append_left, Contains-append_right}
use Rattle.std.proofs.lemmas.Map.Keys.{Less-from_sorted}
use Rattle.mk_jobs.specs.Jobs.{Jobs, Before, edge, further, IsPrerequisite, IsRaceFree, IsValid}
use Rattle.mk_jobs.proofs.JobsLemmas.{before_less, clash_live}
use Rattle.mk_jobs.proofs.Reaching.{turned_clash}
use Rattle.mk_proof.specs.Shapes.{pair_cmp}
use Rattle.mk_decide.specs.Pairs.{ArePairs, PairsRise}
use Rattle.mk_fix.specs.Added.{AreRisingToLive, with_edges}
use Rattle.mk_fix.specs.Fixes.{IsFix}
use Rattle.mk_decide.specs.Races.{IsRace}
use Rattle.mk_fix.specs.Musts.{AreDirect, IsDirect, IsStep, Must, step, more}
use Rattle.mk_fix.proofs.Adding.{clash_down, edge_cases, old_edge, there, here}
use Rattle.mk_fix.proofs.Fixing.{joined, more_edge}

step_less : (jobs : Jobs) (a b : ℕ) → IsValid jobs → IsStep jobs a b → a < b
step_less jobs a b valid s = elim s [ inl p ↦ valid.smaller b a p | inr clash ↦ clash.0 ]

must_less : {jobs : Jobs} {a b : ℕ} → IsValid jobs → Must jobs a b → a < b
must_less {jobs} {a} {b} valid (step s) = step_less jobs a b valid s
must_less {jobs} {a} {b} valid (more {b = m} chain s) = lt_trans (must_less valid chain) (step_less jobs m b valid s)

-- what is in order must be so
must_of : {jobs : Jobs} {a b : ℕ} → Before jobs a b → Must jobs a b
must_of {jobs} {a} {b} (edge p) = step (inl p)
must_of {jobs} {a} {b} (further chain p) = more (must_of chain) (inl p)

-- what is before b has a step of its own to b, or a way around
pub direct_apart : {jobs : Jobs} {a b : ℕ} → IsDirect jobs a b → Before jobs a b → ⊥
direct_apart {jobs} {a} {b} direct (edge p) = direct.no_edge p
direct_apart {jobs} {a} {b} direct (further {b = m} chain p) = direct.no_way (record { node = m; behind = must_of chain; before = inl p })

-- so a direct race is a race
pub direct_race : (jobs : Jobs) (a b : ℕ) → IsValid jobs → IsDirect jobs a b → IsRace jobs a b
direct_race jobs a b valid direct = record {
  rises = direct.rises;
  clash = direct.clash;
  apart = λ order. elim order [
    | inl before ↦ direct_apart direct before
    | inr after ↦ let less = direct.rises in let more = before_less valid after in omega (arith, less, more)
  ];
}

to_live_nodes : {jobs : Jobs} {edges : List (ℕ × ℕ)} → AreDirect jobs edges → AreRisingToLive jobs edges
to_live_nodes are a b h = let direct = are.only a b h in (direct.rises, (clash_live direct.clash.1).second_live)

module _ (jobs : Jobs) (edges : List (ℕ × ℕ)) (valid : IsValid jobs) (are : AreDirect jobs edges) where
  -- where each step shorter than a bound is in order, so is what must be, within the bound
  short : (bound : ℕ) → ((x y : ℕ) → y < x + bound → IsStep jobs x y → Before (with_edges jobs edges) x y)
      → (a c : ℕ) → c < a + bound → Must jobs a c → Before (with_edges jobs edges) a c
  short bound each a c below (step s) = each a c below s
  short bound each a c below (more {b = b} chain s) =
      let first = must_less valid chain in
      let last = step_less jobs b c valid s in
      joined (short bound each a b (omega (arith, below, last)) chain) (each b c (omega (arith, below, first)) s)

  -- so each step is in order
  in_order : (bound x y : ℕ) → y < x + bound → IsStep jobs x y → Before (with_edges jobs edges) x y
  in_order zero x y below s = absurd (let less = step_less jobs x y valid s in omega (arith, less, below))
  in_order (suc bound) x y below (inl p) = edge (old_edge jobs edges x y p)
  in_order (suc bound) x y below (inr clash) = elim (are.all x y clash.0 clash.1) [
    | inl added ↦ edge (more_edge jobs edges x y (to_live_nodes are) added)
    | inr (inl p) ↦ edge (old_edge jobs edges x y p)
    | inr (inr around) ↦
        let first = must_less valid around.behind in
        let last = step_less jobs around.node y valid around.before in
        joined (short bound (in_order bound) x around.node (omega (arith, below, last)) around.behind)
        (in_order bound around.node y (omega (arith, below, first)) around.before)
  ]

  direct_free : IsRaceFree (with_edges jobs edges)
  direct_free a b clash =
      let was = clash_down jobs edges (to_live_nodes are) a b clash in
      elim (cases_order a b) [
        | inl same ↦ absurd (clash.1.different same)
        | inr (inl less) ↦ inl (in_order (suc b) a b (omega arith) (inr (less, was)))
        | inr (inr above) ↦ inr (in_order (suc a) b a (omega arith) (inr (above, turned_clash was)))
      ]

  -- what some of the edges put in order must be so
  some_step : (some : List (ℕ × ℕ)) → ((e : ℕ × ℕ) → Contains some e → Contains edges e) → (x y : ℕ) → IsPrerequisite (with_edges jobs some) x y → IsStep jobs x y
  some_step some within x y p = elim (edge_cases jobs some x y p) [
    | inl was ↦ inl was
    | inr added ↦ let direct = are.only x y (within (x, y) added) in inr (direct.rises, direct.clash)
  ]

  some_must : (some : List (ℕ × ℕ)) → ((e : ℕ × ℕ) → Contains some e → Contains edges e) → {x y : ℕ} → Before (with_edges jobs some) x y → Must jobs x y
  some_must some within {x} {y} (edge p) = step (some_step some within x y p)
  some_must some within {x} {y} (further {b = m} chain p) = more (some_must some within chain) (some_step some within m y p)

-- a pair is not below itself
same_pair : (e : ℕ × ℕ) → pair_cmp e e ≡ Less → ⊥
same_pair e less =
    let first : Equal ≡ nat_cmp e.0 e.0 = nat_cmp_is e.0 e.0 Equal refl in
    let second : Equal ≡ nat_cmp e.1 e.1 = nat_cmp_is e.1 e.1 Equal refl in
    let both : Equal ≡ pair_cmp e e = ap₂ ordering_then first second in
    let no : Equal ≡ Less = both ∙ less in cc

-- of pairs in order none stands twice
not_twice : (front back : List (ℕ × ℕ)) (e : ℕ × ℕ) → PairsRise (front ++ e ∷ back) → Contains (front ++ back) e → ⊥
not_twice front back e rise h =
    let at : get_or (front ++ e ∷ back) (length front) e ≡ e =
    ap (λ n. get_or (front ++ e ∷ back) n e) (let k : length front ≡ length front + 0 = omega arith in k) ∙ get_or-append-add front (e ∷ back) 0 e in
    let long = length-append front (e ∷ back) in
    elim (Contains-append_cases front back e h) [
      | inl in_front ↦
          let other : get_or (front ++ e ∷ back) in_front.0 e ≡ e = get_or_append_left front (e ∷ back) e in_front.0 in_front.1 ∙ in_front.2 in
          same_pair e (ap₂ pair_cmp (sym other) (sym at) ∙ Less-from_sorted pair_cmp (front ++ e ∷ back) in_front.0 (length front) e rise in_front.1 (let i = in_front.1 in omega (arith, long, i)))
      | inr in_back ↦
          let other : get_or (front ++ e ∷ back) (length front + suc in_back.0) e ≡ e = get_or-append-add front (e ∷ back) (suc in_back.0) e ∙ in_back.2 in
          same_pair e (ap₂ pair_cmp (sym at) (sym other)
          ∙ Less-from_sorted pair_cmp (front ++ e ∷ back) (length front) (length front + suc in_back.0) e rise (omega arith) (let i = in_back.1 in omega (arith, long, i)))
    ]

fewer_within : (front back : List (ℕ × ℕ)) (e f : ℕ × ℕ) → Contains (front ++ back) f → Contains (front ++ e ∷ back) f
fewer_within front back e f h = elim (Contains-append_cases front back f h) [
  | inl in_front ↦ Contains-append_left front (e ∷ back) f in_front
  | inr in_back ↦ Contains-append_right front (e ∷ back) f (there e back f in_back)
]

needed_edge : (jobs : Jobs) (edges front back : List (ℕ × ℕ)) (a b : ℕ) → IsValid jobs → AreDirect jobs edges → edges ≡ front ++ (a, b) ∷ back
    → Before (with_edges jobs (front ++ back)) a b → ⊥
needed_edge jobs edges front back a b valid are is (edge p) =
    let its : Contains edges (a, b) = subst (λ (es : List (ℕ × ℕ)). Contains es (a, b)) (sym is) (Contains-append_right front ((a, b) ∷ back) (a, b) (here (a, b) back)) in
    elim (edge_cases jobs (front ++ back) a b p) [
      | inl was ↦ (are.only a b its).no_edge was
      | inr again ↦ not_twice front back (a, b) (subst PairsRise is are.rise) again
    ]
needed_edge jobs edges front back a b valid are is (further {b = c} chain p) =
    let its : Contains edges (a, b) = subst (λ (es : List (ℕ × ℕ)). Contains es (a, b)) (sym is) (Contains-append_right front ((a, b) ∷ back) (a, b) (here (a, b) back)) in
    let within : (e : ℕ × ℕ) → Contains (front ++ back) e → Contains edges e = λ e h. subst (λ (es : List (ℕ × ℕ)). Contains es e) (sym is) (fewer_within front back (a, b) e h) in
    (are.only a b its).no_way (record {
      node = c;
      behind = some_must jobs edges valid are (front ++ back) within chain;
      before = some_step jobs edges valid are (front ++ back) within c b p;
    })

pub direct_fix : (jobs : Jobs) (edges : List (ℕ × ℕ)) → IsValid jobs → AreDirect jobs edges → IsFix jobs edges
direct_fix jobs edges valid are = record {
  rise = are.rise;
  races = λ a b h. direct_race jobs a b valid (are.only a b h);
  free = direct_free jobs edges valid are;
  needed = λ front back a b is before. needed_edge jobs edges front back a b valid are is before;
}

-- all clashing pairs as edges
pairs_live : (jobs : Jobs) (pairs : List (ℕ × ℕ)) → ArePairs jobs pairs → AreRisingToLive jobs pairs
pairs_live jobs pairs are a b h = let pair = (are.clash a b).0 h in (pair.0, (clash_live pair.1.1).second_live)

step_edge : (jobs : Jobs) (pairs : List (ℕ × ℕ)) → ArePairs jobs pairs → (x y : ℕ) → IsStep jobs x y → IsPrerequisite (with_edges jobs pairs) x y
step_edge jobs pairs are x y s = elim s [
  | inl was ↦ old_edge jobs pairs x y was
  | inr clash ↦ more_edge jobs pairs x y (pairs_live jobs pairs are) ((are.clash x y).1 clash)
]

edge_step : (jobs : Jobs) (pairs : List (ℕ × ℕ)) → ArePairs jobs pairs → (x y : ℕ) → IsPrerequisite (with_edges jobs pairs) x y → IsStep jobs x y
edge_step jobs pairs are x y p = elim (edge_cases jobs pairs x y p) [ inl was ↦ inl was | inr added ↦ inr ((are.clash x y).0 added) ]

pub must_before : (jobs : Jobs) (pairs : List (ℕ × ℕ)) → ArePairs jobs pairs → {a b : ℕ} → Must jobs a b → Before (with_edges jobs pairs) a b
must_before jobs pairs are {a} {b} (step s) = edge (step_edge jobs pairs are a b s)
must_before jobs pairs are {a} {b} (more {b = m} chain s) = further (must_before jobs pairs are chain) (step_edge jobs pairs are m b s)

pub before_must : (jobs : Jobs) (pairs : List (ℕ × ℕ)) → ArePairs jobs pairs → {a b : ℕ} → Before (with_edges jobs pairs) a b → Must jobs a b
before_must jobs pairs are {a} {b} (edge p) = step (edge_step jobs pairs are a b p)
before_must jobs pairs are {a} {b} (further {b = m} chain p) = more (before_must jobs pairs are chain) (edge_step jobs pairs are m b p)
