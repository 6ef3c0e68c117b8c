-- Pairs that are gathered, brought in order and counted.
use Rattle.std.proofs.Common.{ℕ, ◌≡◌, ◌≢◌, ◌<◌, ◌↔◌, ◌&&◌, ◌+◌, true, List, [], ◌∷◌, ◌++◌, length, Ordering, Less, Equal, Greater, Result, refl, sym, ap₂, ◌∙◌, subst, inl, inr, arith, eqb, eqb-true}
use Rattle.std.specs.List.{Contains}
use Rattle.std.specs.Ordering.{eq_by_cmp, is_eq, nat_cmp, ordering_then}
use Rattle.std.specs.Cmp.{IsEquivalence}
use Rattle.std.proofs.lemmas.Bool.{and_parts, cases_lt}
use Rattle.std.proofs.lemmas.Bool.Decides.{nat_tests}
use Rattle.std.proofs.lemmas.Cmp.{and_equiv, nat_eq_equiv, on_equiv}
use Rattle.std.proofs.lemmas.List.Elements.{Contains-append_left, Contains-push, Contains-push_cases}
use Rattle.mk_name.specs.Gives.{HaltsAmong}
use Rattle.mk_name.specs.Reported.{Reported}
use Rattle.mk_name.specs.declared.fault.Halt.{Halt}
use Rattle.mk_name.specs.declared.fault.Halt.TheVariants as halts
use Rattle.mk_jobs.specs.Jobs.{Jobs, Clash, node_count}
use Rattle.mk_jobs.specs.Shape.{IsWellFormed}
use Rattle.mk_jobs.proofs.Reaching.{clash_is_reach}
use Rattle.mk_jobs.proofs.JobsLemmas.{clash_live}
use Rattle.mk_index.specs.Uses.{Reaches}
use Rattle.mk_jobs.specs.Reaching.{uses_of}
use Rattle.mk_decide.specs.Pairs.{ArePairs, HasManyPairs, Holds, OnlyClashing, PairsRise, pair_limit}
use Rattle.mk_proof.specs.Shapes.{pair_cmp}

-- one pair more that clashes
pub clash_pushed : {jobs : Jobs} (pairs : List (ℕ × ℕ)) (x y : ℕ) → OnlyClashing jobs pairs → x < y → Clash jobs x y → OnlyClashing jobs (pairs ++ (x, y) ∷ [])
clash_pushed {jobs} pairs x y only less clash a b there = elim (Contains-push_cases pairs (x, y) (a, b) there) [
  | inl before ↦ only a b before
  | inr same ↦ subst (λ (p : ℕ × ℕ). (p.0 < p.1) × Clash jobs p.0 p.1) same (less, clash)
]

-- whatever was there stays
pub held_pushed : (pairs : List (ℕ × ℕ)) (p : ℕ × ℕ) (a b : ℕ) → Holds pairs a b → Holds (pairs ++ p ∷ []) a b
held_pushed pairs p a b held = record {
  rising = λ less. Contains-append_left pairs (p ∷ []) (a, b) (held.rising less);
  falling = λ more. Contains-append_left pairs (p ∷ []) (b, a) (held.falling more);
}

-- and the new one is there
pub held_rising : (pairs : List (ℕ × ℕ)) (a b : ℕ) → a < b → Holds (pairs ++ (a, b) ∷ []) a b
held_rising pairs a b less = record { rising = λ _. Contains-push pairs (a, b); falling = λ more. absurd (omega (arith, less, more)) }

pub held_falling : (pairs : List (ℕ × ℕ)) (a b : ℕ) → b < a → Holds (pairs ++ (b, a) ∷ []) a b
held_falling pairs a b more = record { rising = λ less. absurd (omega (arith, less, more)); falling = λ _. Contains-push pairs (b, a) }

-- the pairs of all nodes that reach a node
abbrev pub AllHeld : Jobs → List (ℕ × ℕ) → ℕ → Type 0
AllHeld jobs pairs end = (a b : ℕ) → b < end → a ≢ b → Reaches (uses_of jobs) a b → Holds pairs a b

-- whatever clashes is there
pub clash_held : (jobs : Jobs) (pairs : List (ℕ × ℕ)) (a b : ℕ) → IsWellFormed jobs → AllHeld jobs pairs (node_count jobs) → a < b → Clash jobs a b → Contains pairs (a, b)
clash_held jobs pairs a b shape all less clash =
    let live = clash_live clash.1 in
    let reach = (clash_is_reach jobs a b shape).0 clash in
    elim reach.1 [
      | inl over ↦ (all a b live.second_node reach.0 over).rising less
      | inr over ↦ (all b a live.first_node (λ same. reach.0 (sym same)) over).falling less
    ]

-- the same pairs in order are those that clash
pub pairs_are : (jobs : Jobs) (pairs new : List (ℕ × ℕ)) → IsWellFormed jobs → OnlyClashing jobs pairs → AllHeld jobs pairs (node_count jobs)
    → PairsRise new → ((a b : ℕ) → Contains new (a, b) ↔ Contains pairs (a, b)) → ArePairs jobs new
pairs_are jobs pairs new shape only all rise same = record {
  rise = rise;
  clash = λ a b. (
    λ there. only a b ((same a b).0 there),
    λ clash. (same a b).1 (clash_held jobs pairs a b shape all clash.0 clash.1),
  );
}

-- equal pairs
pub pair_equal : (p q : ℕ × ℕ) → (eqb p.0 q.0 && eqb p.1 q.1) ≡ true → p ≡ q
pair_equal p q same =
    let parts = and_parts (eqb p.0 q.0) (eqb p.1 q.1) same in
    λ i. (eqb-true p.0 q.0 parts.0 i, eqb-true p.1 q.1 parts.1 i)

pub pair_equiv : IsEquivalence (λ (p q : ℕ × ℕ). eqb p.0 q.0 && eqb p.1 q.1)
pair_equiv = and_equiv (on_equiv (λ (p : ℕ × ℕ). p.0) nat_eq_equiv) (on_equiv (λ (p : ℕ × ℕ). p.1) nat_eq_equiv)

ties_then : (o r : Ordering) → (is_eq o && is_eq r) ≡ is_eq (ordering_then o r)
ties_then Less r = refl
ties_then Equal r = refl
ties_then Greater r = refl

ties_nat : (x y : ℕ) → eqb x y ≡ is_eq (nat_cmp x y)
ties_nat x y = grind (arith, nat_tests)

pub pair_ties : (p q : ℕ × ℕ) → (eqb p.0 q.0 && eqb p.1 q.1) ≡ eq_by_cmp pair_cmp p q
pair_ties p q = ap₂ (λ a b. a && b) (ties_nat p.0 q.0) (ties_nat p.1 q.1) ∙ ties_then (nat_cmp p.0 q.0) (nat_cmp p.1 q.1)

-- a fault with a fact
pub halts_with : (P : Result ℕ Reported → Type 0) (Q : Type 0) (halt : Halt) → HaltsAmong {Y = ℕ} halt P → Q → HaltsAmong {Y = ℕ} halt (λ answer. P answer × Q)
halts_with P Q halts.Memory there fact = tt
halts_with P Q (halts.Fault fault) there fact = (there, fact)

pub halts_more : (P : Result ℕ Reported → Type 0) (Q R : Type 0) (halt : Halt) → (Q → R) → HaltsAmong {Y = ℕ} halt (λ answer. P answer × Q)
    → HaltsAmong {Y = ℕ} halt (λ answer. P answer × R)
halts_more P Q R halts.Memory more h = tt
halts_more P Q R (halts.Fault fault) more h = (h.0, more h.1)

-- pairs in order, more than there may be
pub many_are : {jobs : Jobs} (pairs new : List (ℕ × ℕ)) → OnlyClashing jobs pairs → PairsRise new → ((a b : ℕ) → Contains new (a, b) ↔ Contains pairs (a, b))
    → pair_limit < length new → HasManyPairs jobs
many_are pairs new only rise same many = record { pairs = new; rise = rise; clash = λ a b there. only a b ((same a b).0 there); many = many }

-- the same pairs clash, and are there
pub same_clash : {jobs : Jobs} (pairs new : List (ℕ × ℕ)) → ((a b : ℕ) → Contains new (a, b) ↔ Contains pairs (a, b)) → OnlyClashing jobs pairs → OnlyClashing jobs new
same_clash pairs new same only a b there = only a b ((same a b).0 there)

pub same_held : (pairs new : List (ℕ × ℕ)) (a b : ℕ) → ((x y : ℕ) → Contains new (x, y) ↔ Contains pairs (x, y)) → Holds pairs a b → Holds new a b
same_held pairs new a b same held = record { rising = λ less. (same a b).1 (held.rising less); falling = λ more. (same b a).1 (held.falling more) }

-- one node more
pub held_more : (jobs : Jobs) (old new : List (ℕ × ℕ)) (end : ℕ) → AllHeld jobs old end → ((a b : ℕ) → Holds old a b → Holds new a b)
    → ((a : ℕ) → a ≢ end → Reaches (uses_of jobs) a end → Holds new a end) → AllHeld jobs new (end + 1)
held_more jobs old new end all kept here a b below other reaches = elim (cases_lt b end) [
  | inl before ↦ kept a b (all a b before other reaches)
  | inr past ↦
      let same : end ≡ b = omega (arith, past, below) in
      subst (λ (k : ℕ). a ≢ k → Reaches (uses_of jobs) a k → Holds new a k) same (here a) other reaches
]
