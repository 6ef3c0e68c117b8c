-- Where neighbours are in order, all that clashes is.
use Rattle.std.proofs.Common.{ℕ, zero, suc, ◌<◌, ◌≤◌, ◌+◌, ◌⊎◌, List, [], ◌∷◌, Contains, sym, subst, inl, inr, arith}
use Rattle.std.proofs.lemmas.Bool.{cases_eq, cases_order}
use Rattle.std.proofs.lemmas.List.Elements.{Contains-append_cases, Contains-append_left, Contains-append_right, Contains-push, Contains-push_cases}
use Rattle.mk_jobs.specs.Jobs.{Jobs, Before, edge, further as on, IsValid, prerequisites_of}
use Rattle.mk_jobs.proofs.Reaching.{turned_clash}
use Rattle.mk_cert.proofs.Certified.{ends_before}
use Rattle.mk_decide.specs.Neighbours.{IsNeighbour, TiedTo, clash, further}
use Rattle.mk_decide.specs.Paths.{IsFrom}
use Rattle.mk_decide.specs.Short.{NeighboursOrderAll, ShortIsRaceFree}
use Rattle.mk_decide.proofs.Edges.{before_from, prerequisite_from}
use Rattle.mk_decide.proofs.Sweeping.{tied_less}

-- before is transitive
joined : {jobs : Jobs} {a b c : ℕ} → Before jobs a b → Before jobs b c → Before jobs a c
joined first (edge p) = on first p
joined first (on chain p) = on (joined first chain) p

-- whether a node is a, or has a before it
from_decided : (jobs : Jobs) (a x : ℕ) → Before jobs a x ⊎ (Before jobs a x → ⊥) → IsFrom jobs a x ⊎ (IsFrom jobs a x → ⊥)
from_decided jobs a x (inl before) = inl (inr before)
from_decided jobs a x (inr never) = elim (cases_eq x a) [
  | inl same ↦ inl (inl same)
  | inr other ↦ inr (λ from. elim from [ inl same ↦ absurd (other same) | inr before ↦ never before ])
]

-- so it is with one of some nodes
any_from : (jobs : Jobs) (a : ℕ) (nodes : List ℕ) → ((p : ℕ) → Contains nodes p → Before jobs a p ⊎ (Before jobs a p → ⊥))
    → ((p : ℕ) × Contains nodes p × IsFrom jobs a p) ⊎ ((p : ℕ) → Contains nodes p → IsFrom jobs a p → ⊥)
any_from jobs a [] known = inr (λ p there from. absurd (let inside = there.1 in omega (arith, inside)))
any_from jobs a (x ∷ nodes) known =
    let first = Contains-append_left (x ∷ []) nodes x (Contains-push [] x) in
    elim (from_decided jobs a x (known x first)) [
      | inl from ↦ inl (x, first, from)
      | inr never ↦ elim (any_from jobs a nodes (λ p there. known p (Contains-append_right (x ∷ []) nodes p there))) [
        | inl found ↦ inl (found.0, Contains-append_right (x ∷ []) nodes found.0 found.1, found.2)
        | inr none ↦ inr (λ p there from. elim (Contains-append_cases (x ∷ []) nodes p there) [
          | inl here ↦ elim (Contains-push_cases [] x p here) [
            | inl here_none ↦ absurd (let inside = here_none.1 in omega (arith, inside))
            | inr same ↦ never (subst (IsFrom jobs a) (sym same) from)
          ]
          | inr rest ↦ none p rest from
        ])
      ]
    ]

-- a node is before another, or it is not
decided : (jobs : Jobs) (a : ℕ) → IsValid jobs → (end b : ℕ) → b < end → Before jobs a b ⊎ (Before jobs a b → ⊥)
decided jobs a valid zero b below = absurd (omega (arith, below))
decided jobs a valid (suc end) b below =
    elim (any_from jobs a (prerequisites_of jobs b) (λ p there. decided jobs a valid end p (let less = valid.smaller b p there in omega (arith, less, below)))) [
      | inl found ↦ inl (before_from jobs a found.0 b found.1 found.2)
      | inr none ↦ inr (λ before. let last = prerequisite_from jobs a b before in none last.node last.edge last.from)
    ]

-- what is tied cannot be out of order
tied_ordered : (jobs : Jobs) → ((a b : ℕ) → IsNeighbour jobs a b → Before jobs a b) → (far a b : ℕ) → b ≤ a + far → TiedTo jobs b a → (Before jobs a b → ⊥) → ⊥
tied_ordered jobs ordered zero a b near tied never = let less = tied_less tied in omega (arith, less, near)
tied_ordered jobs ordered (suc far) a b near (clash less one) never = never (ordered a b (record {
  rises = less;
  clash = one;
  alone = λ c up other tied.
      let down = tied_less tied in
      tied_ordered jobs ordered far a c (omega (arith, down, near)) (clash up other) (λ first.
      tied_ordered jobs ordered far c b (omega (arith, up, near)) tied (λ second. never (joined first second)));
}))
tied_ordered jobs ordered (suc far) a b near (further {c = c} less one next) never =
    let down = tied_less next in
    tied_ordered jobs ordered far a c (omega (arith, down, near)) (clash less one) (λ first.
    tied_ordered jobs ordered far c b (omega (arith, less, near)) next (λ second. never (joined first second)))

pub neighbours_order_all : NeighboursOrderAll
neighbours_order_all jobs valid ordered a b one = elim (cases_order a b) [
  | inl same ↦ absurd (one.1.different same)
  | inr (inl less) ↦ elim (decided jobs a valid (b + 1) b (omega arith)) [
    | inl before ↦ inl before
    | inr never ↦ absurd (tied_ordered jobs ordered b a b (omega arith) (clash less one) never)
  ]
  | inr (inr more) ↦ elim (decided jobs b valid (a + 1) a (omega arith)) [
    | inl before ↦ inr before
    | inr never ↦ absurd (tied_ordered jobs ordered a b a (omega arith) (clash more (turned_clash one)) never)
  ]
]

pub short_is_race_free : ShortIsRaceFree
short_is_race_free jobs chains valid short = neighbours_order_all jobs valid (λ a b near. ends_before jobs chains a b short.edges (short.all a b near))
