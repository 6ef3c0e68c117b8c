-- What the search for the least race has found.
use Rattle.std.proofs.Common.{ℕ, ◌≡◌, ◌≢◌, ◌<◌, ◌⊎◌, ◌↔◌, Option, Some, None, IfSome, IsNone, refl, sym, inl, inr, arith}
use Rattle.std.proofs.lemmas.Bool.{cases_order}
use Rattle.mk_jobs.specs.Jobs.{Jobs, Before, Clash, IsRaceFree, node_count}
use Rattle.mk_jobs.specs.Shape.{IsWellFormed}
use Rattle.mk_jobs.proofs.Reaching.{clash_is_reach}
use Rattle.mk_jobs.proofs.JobsLemmas.{before_less, clash_live, shape_valid}
use Rattle.mk_index.specs.Uses.{Reaches}
use Rattle.mk_jobs.specs.Reaching.{uses_of}
use Rattle.mk_decide.specs.LeastRaces.{IsFound, IsSettled, IsUpTo, Lowers}
use Rattle.mk_decide.specs.Races.{IsRace, IsLeastRace}

-- what precedes a pair precedes what the pair precedes
pub lowered : (x y a b : ℕ) → (a < x) ⊎ ((a ≡ x) × (b < y)) → Lowers (Some (x, y)) (Some (a, b))
lowered x y a b before c d up = elim before [
  | inl less ↦ elim up [ inl low ↦ inl (omega (arith, less, low)) | inr same ↦ inl (omega (arith, less, same)) ]
  | inr equal ↦ elim up [ inl low ↦ inl (omega (arith, equal, low)) | inr same ↦ inr (omega (arith, equal, same), omega (arith, equal, same)) ]
]

-- what is settled stays so
pub settled_lower : {jobs : Jobs} {old new : Option (ℕ × ℕ)} {a b : ℕ} → Lowers old new → IsSettled jobs old a b → IsSettled jobs new a b
settled_lower {jobs} {old} {new} {a} {b} lower settled = record {
  rising = λ less. elim (settled.rising less) [ inl before ↦ inl before | inr up ↦ inr (lower a b up) ];
  falling = λ more. elim (settled.falling more) [ inl before ↦ inl before | inr up ↦ inr (lower b a up) ];
}

turned : {jobs : Jobs} {found : Option (ℕ × ℕ)} {a b : ℕ} → IsSettled jobs found b a → IsSettled jobs found a b
turned settled = record { rising = settled.falling; falling = settled.rising }

-- whoever reaches a node is settled with it
abbrev pub AllSettled : Jobs → Option (ℕ × ℕ) → Type 0
AllSettled jobs found = (a b : ℕ) → b < node_count jobs → a ≢ b → Reaches (uses_of jobs) a b → IsSettled jobs found a b

clash_settled : (jobs : Jobs) (found : Option (ℕ × ℕ)) (a b : ℕ) → IsWellFormed jobs → AllSettled jobs found → Clash jobs a b → IsSettled jobs found a b
clash_settled jobs found a b shape all clash =
    let live = clash_live clash.1 in
    let reach = (clash_is_reach jobs a b shape).0 clash in
    elim reach.1 [
      | inl over ↦ all a b live.second_node reach.0 over
      | inr over ↦ turned (all b a live.first_node (λ same. reach.0 (sym same)) over)
    ]

-- nothing is found just where the jobs are race-free
pub found_none : (jobs : Jobs) (found : Option (ℕ × ℕ)) → IsWellFormed jobs → IsFound jobs found → AllSettled jobs found → IsNone found ↔ IsRaceFree jobs
found_none jobs None shape race all = (
  λ none a b clash.
      let settled = clash_settled jobs None a b shape all clash in
      elim (cases_order a b) [
        | inl same ↦ absurd (clash.1.different same)
        | inr (inl less) ↦ elim (settled.rising less) [ inl before ↦ inl before | inr up ↦ absurd up ]
        | inr (inr more) ↦ elim (settled.falling more) [ inl before ↦ inr before | inr up ↦ absurd up ]
      ],
  λ free. refl,
)
found_none jobs (Some (x, y)) shape race all = (λ none. cc, λ free. absurd (race.apart (free x y race.clash)))

-- and what is found is the least race
pub found_least : (jobs : Jobs) (found : Option (ℕ × ℕ)) → IsWellFormed jobs → IsFound jobs found → AllSettled jobs found
    → IfSome found (λ race. IsLeastRace jobs race.0 race.1)
found_least jobs None shape race all = tt
found_least jobs (Some (x, y)) shape race all = record {
  race = race;
  least = λ c d other. elim ((clash_settled jobs (Some (x, y)) c d shape all other.clash).rising other.rises) [
    | inl before ↦ absurd (other.apart (inl before))
    | inr up ↦ up
  ];
}

-- a pair that is up to what was found, or in order, is settled; and another is a race
pub race_is : (jobs : Jobs) (a b : ℕ) → IsWellFormed jobs → a < b → Clash jobs a b → (Before jobs a b → ⊥) → IsRace jobs a b
race_is jobs a b shape rises clash apart = record {
  rises = rises;
  clash = clash;
  apart = λ order. elim order [ inl before ↦ apart before | inr after ↦ omega (arith, rises, before_less (shape_valid shape) after) ];
}

-- a pair whose first number is smaller
pub settled_rising : {jobs : Jobs} {found : Option (ℕ × ℕ)} {a b : ℕ} → a < b → Before jobs a b ⊎ IsUpTo found a b → IsSettled jobs found a b
settled_rising {a = a} {b} less settled = record { rising = λ _. settled; falling = λ more. absurd (omega (arith, less, more)) }

pub settled_falling : {jobs : Jobs} {found : Option (ℕ × ℕ)} {a b : ℕ} → b < a → Before jobs b a ⊎ IsUpTo found b a → IsSettled jobs found a b
settled_falling {a = a} {b} less settled = record { rising = λ more. absurd (omega (arith, less, more)); falling = λ _. settled }

-- whoever reaches another node clashes with it
pub reach_clashes : (jobs : Jobs) (a b : ℕ) → IsWellFormed jobs → a ≢ b → Reaches (uses_of jobs) a b → Clash jobs a b
reach_clashes jobs a b shape other reaches = (clash_is_reach jobs a b shape).1 (other, inl reaches)

pub reach_clashes_back : (jobs : Jobs) (a b : ℕ) → IsWellFormed jobs → a ≢ b → Reaches (uses_of jobs) a b → Clash jobs b a
reach_clashes_back jobs a b shape other reaches = (clash_is_reach jobs b a shape).1 (λ same. other (sym same), inr reaches)
