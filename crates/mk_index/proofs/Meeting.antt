-- Numbers that one of others stands above.
use Rattle.std.proofs.Common.{ℕ, ◌≡◌, ◌<◌, ◌≤◌, ◌+◌, ◌⊎◌, List, length, get_or, Option, Some, None, IfSome, IfNone, Contains, refl, sym, ap, subst, ◌∙◌, inl, inr, arith, eqb, true, All, below_more}
use Rattle.std.specs.Option.{option_eq}
use Rattle.std.specs.List.Sorted.{IsStrictlyIncreasing}
use Rattle.std.proofs.lemmas.Bool.{cases_order, eqb-true, both_ways}
use Rattle.std.proofs.lemmas.List.{get_or_default}
use Rattle.std.proofs.lemmas.List.Kept.{AllPairs-from_increasing}
use Rattle.mk_index.specs.Ups.{Ups, IsUp, here, IsUpOf, above, number_count}
use Rattle.mk_index.specs.Meets.{IsMet, AreBelow}
use Rattle.mk_index.proofs.Ascents.{up_trans, up_of_trans, up_next, up_cases, up_more, top_is}

-- a climb has passed all up to a next number, and none of them was one of theirs
pub record HasPassed (ups : Ups) (theirs : List ℕ) (first : ℕ) (next : Option ℕ) : Type 0 where
  pub up : IfSome next (λ t. IsUp ups t first)
  pub left : (t : ℕ) → IsUp ups t first → Contains theirs t → IsUpOf ups t next

pub passed_none : (ups : Ups) (theirs : List ℕ) (first : ℕ) → HasPassed ups theirs first (Some first)
passed_none ups theirs first = record { up = here; left = λ t up there. up }

next_up : (ups : Ups) (first t : ℕ) (o : Option ℕ) → IfSome o (λ u. u ≡ above ups t) → IsUp ups t first → IfSome o (λ u. IsUp ups u first)
next_up ups first t None some up = tt
next_up ups first t (Some u) some up = up_more ups t u (Some first) some up

pub passed_more : (ups : Ups) (theirs : List ℕ) (first t : ℕ) (next : Option ℕ) → HasPassed ups theirs first (Some t) → (Contains theirs t → ⊥)
    → IfSome next (λ u. u ≡ above ups t) → IfNone next (above ups t ≡ t) → HasPassed ups theirs first next
passed_more ups theirs first t next passed apart some none = record {
  up = next_up ups first t next some passed.up;
  left = λ x up there. elim (up_next ups x t next some none (passed.left x up there)) [
    | inl same ↦ absurd (apart (subst (Contains theirs) same there))
    | inr more ↦ more
  ];
}

-- at the end none is left
pub passed_all : (ups : Ups) (theirs : List ℕ) (first : ℕ) → HasPassed ups theirs first None → IsMet ups theirs first → ⊥
passed_all ups theirs first passed met = passed.left met.upper met.over met.there

-- or the rest is on the way up from the last one
pub passed_seen : (ups : Ups) (theirs : List ℕ) (first s : ℕ) (last : Option ℕ) → HasPassed ups theirs first (Some s) → IsUpOf ups s last
    → ((t : ℕ) → IsUpOf ups t last → Contains theirs t → ⊥) → IsMet ups theirs first → ⊥
passed_seen ups theirs first s last passed seen none met =
    none met.upper (up_of_trans ups met.upper s last (passed.left met.upper met.over met.there) seen) met.there

pub seen_is : (ups : Ups) (seen last : Option ℕ) (t : ℕ) → option_eq eqb seen (Some t) ≡ true → IfSome seen (λ s. IsUpOf ups s last) → IsUpOf ups t last
seen_is ups None last t same up = absurd (both_ways _ refl same)
seen_is ups (Some s) last t same up = subst (λ n. IsUpOf ups n last) (eqb-true s t same) up

-- numbers that rise: one that is passed is not met again
module _ (numbers : List ℕ) (rise : IsStrictlyIncreasing numbers) where
  pub less_at : (i j : ℕ) → i < j → j < length numbers → get_or numbers i 0 < get_or numbers j 0
  less_at i j before below = AllPairs-from_increasing numbers rise i j 0 before below

  -- a number that does not stand where those below it end is none of them
  pub not_there : (at q : ℕ) → AreBelow numbers at q → (at < length numbers → q ≤ get_or numbers at 0) → (at < length numbers → get_or numbers at 0 ≡ q → ⊥)
      → Contains numbers q → ⊥
  not_there at q below first other there =
      let k = there.0 in
      let is : get_or numbers k 0 ≡ q = get_or_default numbers k 0 q there.1 ∙ there.2 in
      elim (cases_order k at) [
        | inl same ↦
            let inside : at < length numbers = omega (arith, same, there.1) in
            other inside (ap (λ i. get_or numbers i 0) (sym same) ∙ is)
        | inr (inl less) ↦ absurd (omega (arith, below k less, is))
        | inr (inr more) ↦
            let inside : at < length numbers = omega (arith, more, there.1) in
            absurd (omega (arith, first inside, less_at at k more there.1, is))
      ]

  -- those below a number are below a later one
  pub below_later : (theirs : List ℕ) (at i j : ℕ) → i < j → j < length numbers → AreBelow theirs at (get_or numbers i 0) → AreBelow theirs at (get_or numbers j 0)
  below_later theirs at i j before inside below = λ k less. omega (arith, below k less, less_at i j before inside)

-- a number is met where it is one of theirs, or the one above it is met
pub met_cases : (ups : Ups) (theirs : List ℕ) (q : ℕ) (next : Option ℕ) → IfSome next (λ u. u ≡ above ups q) → IfNone next (above ups q ≡ q)
    → IsMet ups theirs q → Contains theirs q ⊎ ((u : ℕ) × (next ≡ Some u) × IsMet ups theirs u)
met_cases ups theirs q None some none met = inl (subst (Contains theirs) (top_is ups met.upper none met.over) met.there)
met_cases ups theirs q (Some u) some none met = elim (up_cases ups met.upper met.over) [
  | inl same ↦ inl (subst (Contains theirs) same met.there)
  | inr more ↦ inr (u, refl, record { upper = met.upper; over = subst (λ n. IsUp ups met.upper n) (sym some) more; there = met.there })
]

pub met_itself : (ups : Ups) (theirs : List ℕ) (q : ℕ) → Contains theirs q → IsMet ups theirs q
met_itself ups theirs q there = record { upper = q; over = here; there = there }

pub met_above : (ups : Ups) (theirs : List ℕ) (q u : ℕ) → u ≡ above ups q → IsMet ups theirs u → IsMet ups theirs q
met_above ups theirs q u is met = record { upper = met.upper; over = up_trans ups met.upper u met.over (up_more ups q u (Some q) is here); there = met.there }

-- none of the first numbers of mine is met; and those of theirs before a place are below the next one
pub record HasMetNone (ups : Ups) (mine theirs : List ℕ) (at : ℕ) (last : Option ℕ) (i : ℕ) : Type 0 where
  pub within : at ≤ length theirs
  pub below : i < length mine → AreBelow theirs at (get_or mine i 0)
  pub none : (k : ℕ) → k < i → IsMet ups theirs (get_or mine k 0) → ⊥
  pub last_is : IfSome last (λ q. (k : ℕ) × (k < i) × (get_or mine k 0 ≡ q))

pub met_none : (ups : Ups) (mine theirs : List ℕ) → HasMetNone ups mine theirs 0 None 0
met_none ups mine theirs = record { within = omega arith; below = λ _ k less. absurd (omega arith); none = λ k less. absurd (omega arith); last_is = tt }

pub last_within : (ups : Ups) (mine theirs : List ℕ) (at : ℕ) (last : Option ℕ) (i : ℕ) → HasMetNone ups mine theirs at last i → i ≤ length mine
    → All (λ q. q < number_count ups) mine → IfSome last (λ q. q < number_count ups)
last_within ups mine theirs at None i met most all = tt
last_within ups mine theirs at (Some q) i met most all =
    let it = met.last_is in
    omega (arith, all it.0 0 (omega (arith, it.1, most)), it.2)

pub last_none : (ups : Ups) (mine theirs : List ℕ) (at : ℕ) (last : Option ℕ) (i : ℕ) → HasMetNone ups mine theirs at last i
    → (t : ℕ) → IsUpOf ups t last → Contains theirs t → ⊥
last_none ups mine theirs at None i met t none there = none
last_none ups mine theirs at (Some q) i met t up there =
    let it = met.last_is in
    met.none it.0 it.1 (record { upper = t; over = subst (λ n. IsUp ups t n) (sym it.2) up; there = there })

-- one number more that is not met
pub met_more : (ups : Ups) (mine theirs : List ℕ) (at to : ℕ) (last : Option ℕ) (i : ℕ) → IsStrictlyIncreasing mine → HasMetNone ups mine theirs at last i
    → to ≤ length theirs → AreBelow theirs to (get_or mine i 0) → (IsMet ups theirs (get_or mine i 0) → ⊥) → HasMetNone ups mine theirs to (Some (get_or mine i 0)) (i + 1)
met_more ups mine theirs at to last i rise met within below other = record {
  within = within;
  below = λ inside. below_later mine rise theirs to i (i + 1) (omega arith) inside below;
  none = below_more (λ k. IsMet ups theirs (get_or mine k 0) → ⊥) i met.none other;
  last_is = (i, omega arith, refl);
}

-- a number is not met that is none of theirs, and above which nothing is met
pub not_met : (ups : Ups) (theirs : List ℕ) (q : ℕ) (next : Option ℕ) → IfSome next (λ u. u ≡ above ups q) → IfNone next (above ups q ≡ q)
    → (Contains theirs q → ⊥) → ((u : ℕ) → next ≡ Some u → IsMet ups theirs u → ⊥) → IsMet ups theirs q → ⊥
not_met ups theirs q next some none other nothing met = elim (met_cases ups theirs q next some none met) [
  | inl there ↦ other there
  | inr more ↦ nothing more.0 more.1 more.2
]

pub there_at : (numbers : List ℕ) (at q : ℕ) → at < length numbers → get_or numbers at 0 ≡ q → Contains numbers q
there_at numbers at q below is = (at, below, get_or_default numbers at q 0 below ∙ is)
