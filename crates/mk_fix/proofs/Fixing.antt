-- Fixes: determinate, weakest, the only one.
use Rattle.std.proofs.Common.{ℕ, ◌≡◌, ◌<◌, ◌⊎◌, ◌↔◌, List, [], ◌∷◌, ◌++◌, Contains, refl, sym, ap, subst, ◌∙◌, inl, inr, arith}
use Rattle.std.specs.List.Sorted.{IsStrictlySortedBy}
use Rattle.std.proofs.lemmas.List.Elements.{Contains-append_cases, Contains-append_left, Contains-append_right}
use Rattle.mk_jobs.specs.Jobs.{Jobs, Before, edge, further, IsPrerequisite, IsRaceFree, IsValid, may_write, name_of}
use Rattle.mk_jobs.proofs.JobsLemmas.{before_less, clash_live, live_node}
use Rattle.mk_sched.specs.Laws.{IsDeterminate}
use Rattle.mk_sched.proofs.Determinate.{headline}
use Rattle.mk_decide.specs.Pairs.{PairsRise}
use Rattle.mk_decide.specs.Races.{IsRace}
use Rattle.mk_fix.specs.Added.{AreRisingToLive, with_edges}
use Rattle.mk_fix.specs.Fixes.{IsFix}
use Rattle.mk_fix.proofs.Adding.{before_more, clash_down, clash_up, cons_cases, count_same, edge_cases, here, name_same, new_edge, none_in, old_edge, still_smaller, there, write_same}

-- the edges of a fix rise, to live nodes
pub to_live : {jobs : Jobs} {edges : List (ℕ × ℕ)} → IsFix jobs edges → AreRisingToLive jobs edges
to_live fix a b h = let race = fix.races a b h in (race.rises, (clash_live race.clash.1).second_live)

-- valid jobs stay so
pub valid_stays : (jobs : Jobs) (edges : List (ℕ × ℕ)) → IsValid jobs → AreRisingToLive jobs edges → IsValid (with_edges jobs edges)
valid_stays jobs edges valid rising = record {
  smaller = still_smaller jobs edges rising valid.smaller;
  own = λ n m below writes. valid.own n m (rw (sym (count_same jobs edges rising)) below)
      (sym (write_same jobs edges rising n (name_of jobs m)) ∙ ap (may_write (with_edges jobs edges) n) (sym (name_same jobs edges rising m)) ∙ writes);
}

pub fix_determinate : (jobs : Jobs) (edges : List (ℕ × ℕ)) → IsValid jobs → IsFix jobs edges → IsDeterminate (with_edges jobs edges)
fix_determinate jobs edges valid fix = headline (with_edges jobs edges) (valid_stays jobs edges valid (to_live fix)) fix.free

-- without edges more nothing changes
none_rise : (jobs : Jobs) → AreRisingToLive jobs []
none_rise jobs a b h = absurd (none_in (a, b) h)

back_from_none : {jobs : Jobs} {a b : ℕ} → Before (with_edges jobs []) a b → Before jobs a b
back_from_none {jobs} {a} {b} (edge p) = elim (edge_cases jobs [] _ _ p) [ inl was ↦ edge was | inr none ↦ absurd (none_in _ none) ]
back_from_none {jobs} {a} {b} (further chain p) = elim (edge_cases jobs [] _ _ p) [ inl was ↦ further (back_from_none chain) was | inr none ↦ absurd (none_in _ none) ]

free_of_none : (jobs : Jobs) → IsRaceFree (with_edges jobs []) → IsRaceFree jobs
free_of_none jobs free a b clash = elim (free a b (clash_up jobs [] (none_rise jobs) a b clash)) [ inl up ↦ inl (back_from_none up) | inr down ↦ inr (back_from_none down) ]

no_edge : (jobs : Jobs) (edges : List (ℕ × ℕ)) → ((a b : ℕ) → Contains edges (a, b) → IsRace jobs a b) → IsRaceFree jobs → edges ≡ []
no_edge jobs [] races free = refl
no_edge jobs (e ∷ edges) races free = let race = races e.0 e.1 (here e edges) in absurd (race.apart (free e.0 e.1 race.clash))

-- race-free jobs stay so, and so their fix has no edge
not_split : (front back : List (ℕ × ℕ)) (e : ℕ × ℕ) → [] ≡ front ++ e ∷ back → ⊥
not_split [] back e is = cc
not_split (f ∷ front) back e is = cc

none_rising : PairsRise []
unfolding IsStrictlySortedBy
none_rising = tt

pub fix_of_free : (jobs : Jobs) → IsRaceFree jobs → IsFix jobs []
fix_of_free jobs free = record {
  rise = none_rising;
  races = λ a b h. absurd (none_in (a, b) h);
  free = λ a b clash. elim (free a b (clash_down jobs [] (none_rise jobs) a b clash)) [ inl up ↦ inl (before_more [] up) | inr down ↦ inr (before_more [] down) ];
  needed = λ front back a b is before. not_split front back (a, b) is;
}

pub nothing_to_fix : (jobs : Jobs) (edges : List (ℕ × ℕ)) → IsFix jobs edges → (edges ≡ []) ↔ IsRaceFree jobs
nothing_to_fix jobs edges fix = (
  λ none. free_of_none jobs (subst (λ (es : List (ℕ × ℕ)). IsRaceFree (with_edges jobs es)) none fix.free),
  λ free. no_edge jobs edges fix.races free,
)

-- before is transitive
pub joined : {jobs : Jobs} {a b c : ℕ} → Before jobs a b → Before jobs b c → Before jobs a c
joined first (edge p) = further first p
joined first (further chain p) = further (joined first chain) p

-- what a fix adds, other rising edges that make the jobs race-free put in order too
weakest_edge : (jobs : Jobs) (edges other : List (ℕ × ℕ)) (a b : ℕ) → IsValid jobs → IsFix jobs edges → AreRisingToLive jobs other
    → IsRaceFree (with_edges jobs other) → IsPrerequisite (with_edges jobs edges) a b → Before (with_edges jobs other) a b
weakest_edge jobs edges other a b valid fix rising free p = elim (edge_cases jobs edges a b p) [
  | inl was ↦ edge (old_edge jobs other a b was)
  | inr added ↦
      let race = fix.races a b added in
      elim (free a b (clash_up jobs other rising a b race.clash)) [
        | inl up ↦ up
        | inr down ↦ absurd (let less = before_less (valid_stays jobs other valid rising) down in let more = race.rises in omega (arith, less, more))
      ]
]

pub weakest : {jobs : Jobs} {edges : List (ℕ × ℕ)} (other : List (ℕ × ℕ)) {a b : ℕ} → IsValid jobs → IsFix jobs edges → AreRisingToLive jobs other
    → IsRaceFree (with_edges jobs other) → Before (with_edges jobs edges) a b → Before (with_edges jobs other) a b
weakest {jobs} {edges} other {a} {b} valid fix rising free (edge p) = weakest_edge jobs edges other _ _ valid fix rising free p
weakest {jobs} {edges} other {a} {b} valid fix rising free (further chain p) =
    joined (weakest other valid fix rising free chain) (weakest_edge jobs edges other _ _ valid fix rising free p)

-- a chain that ends before b, or begins behind a, does without the edge from a to b
split_cases : (front back : List (ℕ × ℕ)) (e f : ℕ × ℕ) → Contains (front ++ e ∷ back) f → Contains (front ++ back) f ⊎ (e ≡ f)
split_cases front back e f h = elim (Contains-append_cases front (e ∷ back) f h) [
  | inl in_front ↦ inl (Contains-append_left front back f in_front)
  | inr rest ↦ elim (cons_cases e back f rest) [ inl same ↦ inr same | inr in_back ↦ inl (Contains-append_right front back f in_back) ]
]

pub more_edge : (jobs : Jobs) (edges : List (ℕ × ℕ)) (x y : ℕ) → AreRisingToLive jobs edges → Contains edges (x, y) → IsPrerequisite (with_edges jobs edges) x y
more_edge jobs edges x y rising h = new_edge jobs edges x y (live_node jobs y (rising x y h).1) h

pub fewer_rise : (jobs : Jobs) (front back : List (ℕ × ℕ)) (e : ℕ × ℕ) → AreRisingToLive jobs (front ++ e ∷ back) → AreRisingToLive jobs (front ++ back)
fewer_rise jobs front back e rising x y h = rising x y (elim (Contains-append_cases front back (x, y) h) [
  | inl in_front ↦ Contains-append_left front (e ∷ back) (x, y) in_front
  | inr in_back ↦ Contains-append_right front (e ∷ back) (x, y) (there e back (x, y) in_back)
])

fewer_edge : (jobs : Jobs) (front back : List (ℕ × ℕ)) (e : ℕ × ℕ) (x y : ℕ) → AreRisingToLive jobs (front ++ e ∷ back) → (e ≡ (x, y) → ⊥)
    → IsPrerequisite (with_edges jobs (front ++ e ∷ back)) x y → IsPrerequisite (with_edges jobs (front ++ back)) x y
fewer_edge jobs front back e x y rising other p = elim (edge_cases jobs (front ++ e ∷ back) x y p) [
  | inl was ↦ old_edge jobs (front ++ back) x y was
  | inr added ↦ elim (split_cases front back e (x, y) added) [
    | inl kept ↦ more_edge jobs (front ++ back) x y (fewer_rise jobs front back e rising) kept
    | inr same ↦ absurd (other same)
  ]
]

module _ (jobs : Jobs) (front back : List (ℕ × ℕ)) (a b : ℕ) (rising : AreRisingToLive jobs (front ++ (a, b) ∷ back)) (valid : IsValid (with_edges jobs (front ++ (a, b) ∷ back))) where
  ends_below : (x y : ℕ) → y < b → Before (with_edges jobs (front ++ (a, b) ∷ back)) x y → Before (with_edges jobs (front ++ back)) x y
  ends_below x y below (edge p) = edge (fewer_edge jobs front back (a, b) x y rising (λ same. let e = ap (λ (q : ℕ × ℕ). q.1) same in omega (arith, e, below)) p)
  ends_below x y below (further {b = m} chain p) = further
      (ends_below x m (let less = valid.smaller y m p in omega (arith, less, below)) chain)
      (fewer_edge jobs front back (a, b) m y rising (λ same. let e = ap (λ (q : ℕ × ℕ). q.1) same in omega (arith, e, below)) p)

  begins_above : (x y : ℕ) → a < x → Before (with_edges jobs (front ++ (a, b) ∷ back)) x y → Before (with_edges jobs (front ++ back)) x y
  begins_above x y above (edge p) = edge (fewer_edge jobs front back (a, b) x y rising (λ same. let e = ap (λ (q : ℕ × ℕ). q.0) same in omega (arith, e, above)) p)
  begins_above x y above (further {b = m} chain p) = further
      (begins_above x m above chain)
      (fewer_edge jobs front back (a, b) m y rising (λ same. let e = ap (λ (q : ℕ × ℕ). q.0) same in let less = before_less valid chain in omega (arith, e, above, less)) p)

  around : (c : ℕ) → a < c → c < b → Before (with_edges jobs (front ++ (a, b) ∷ back)) a c → Before (with_edges jobs (front ++ (a, b) ∷ back)) c b → Before (with_edges jobs (front ++ back)) a b
  around c above below first second = joined (ends_below a c below first) (begins_above c b above second)

-- where an element stands
split_at : {X : Type 0} (xs : List X) (x : X) → Contains xs x → (front : List X) × (back : List X) × (xs ≡ front ++ x ∷ back)
split_at [] x h = absurd (none_in x h)
split_at (y ∷ xs) x h = elim (cons_cases y xs x h) [
  | inl same ↦ ([], xs, ap (λ z. z ∷ xs) same)
  | inr rest ↦ let parts = split_at xs x rest in (y ∷ parts.0, parts.1, ap (λ zs. y ∷ zs) parts.2)
]

-- of one fix no edge goes around another of its edges
no_way_around : (jobs : Jobs) (edges : List (ℕ × ℕ)) (a b c : ℕ) → IsValid jobs → IsFix jobs edges → Contains edges (a, b)
    → Before (with_edges jobs edges) a c → Before (with_edges jobs edges) c b → ⊥
no_way_around jobs edges a b c valid fix h first second =
    let parts = split_at edges (a, b) h in
    let rising = to_live fix in
    let whole = valid_stays jobs edges valid rising in
    fix.needed parts.0 parts.1 a b parts.2
    (around jobs parts.0 parts.1 a b (subst (AreRisingToLive jobs) parts.2 rising) (subst (λ (es : List (ℕ × ℕ)). IsValid (with_edges jobs es)) parts.2 whole) c
    (before_less whole first) (before_less whole second)
    (subst (λ (es : List (ℕ × ℕ)). Before (with_edges jobs es) a c) parts.2 first) (subst (λ (es : List (ℕ × ℕ)). Before (with_edges jobs es) c b) parts.2 second))

one_edge : (jobs : Jobs) (first second : List (ℕ × ℕ)) → IsValid jobs → IsFix jobs first → IsFix jobs second
    → (a b : ℕ) → Contains first (a, b) → Before (with_edges jobs second) a b → Contains second (a, b)
one_edge jobs first second valid left right a b h (edge p) = elim (edge_cases jobs second a b p) [
  | inl was ↦ absurd ((left.races a b h).apart (inl (edge was)))
  | inr added ↦ added
]
one_edge jobs first second valid left right a b h (further {b = c} chain p) =
    absurd (no_way_around jobs first a b c valid left h (weakest first valid right (to_live left) left.free chain) (weakest first valid right (to_live left) left.free (edge p)))

pub one_way : (jobs : Jobs) (first second : List (ℕ × ℕ)) → IsValid jobs → IsFix jobs first → IsFix jobs second
    → (a b : ℕ) → Contains first (a, b) → Contains second (a, b)
one_way jobs first second valid left right a b h =
    let race = left.races a b h in
    let whole = valid_stays jobs second valid (to_live right) in
    elim (right.free a b (clash_up jobs second (to_live right) a b race.clash)) [
      | inl up ↦ one_edge jobs first second valid left right a b h up
      | inr down ↦ absurd (let less = before_less whole down in let more = race.rises in omega (arith, less, more))
    ]
