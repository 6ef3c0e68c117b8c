-- Those that hold numbers on a way up, as a list.
use Rattle.std.proofs.Common.{ℕ, ◌≡◌, ◌↔◌, ◌⊎◌, List, [], ◌∷◌, ◌++◌, Option, Some, None, IfSome, IfNone, Contains, sym, subst, inl, inr, arith}
use Rattle.std.proofs.lemmas.List.Elements.{Contains-append_cases, Contains-append_left, Contains-append_right, Contains-push_cases}
use Rattle.mk_index.specs.Table.{row_of}
use Rattle.mk_index.specs.Ups.{Ups, IsUp, here, IsUpOf, IsHeldOver, above}
use Rattle.mk_index.proofs.Ascents.{held_one, up_more, up_next}

-- the way up from a number as far as a next one
pub record HasGained (ups : Ups) (holders : List (List ℕ)) (first : ℕ) (next : Option ℕ) (nodes : List ℕ) : Type 0 where
  pub sound : (a : ℕ) → Contains nodes a → IsHeldOver ups holders (first ∷ []) a
  pub done : (t : ℕ) → IsUp ups t first → ((a : ℕ) → Contains (row_of holders t) a → Contains nodes a) ⊎ IsUpOf ups t next
  pub up : IfSome next (λ t. IsUp ups t first)

pub gained_none : (ups : Ups) (holders : List (List ℕ)) (first : ℕ) → HasGained ups holders first (Some first) []
gained_none ups holders first = record { sound = λ a there. absurd (omega (arith, there.1)); done = λ t up. inr up; up = here }

next_up : (ups : Ups) (first t : ℕ) (o : Option ℕ) → IfSome o (λ u. u ≡ above ups t) → IsUp ups t first → IfSome o (λ u. IsUp ups u first)
next_up ups first t None some up = tt
next_up ups first t (Some u) some up = up_more ups t u (Some first) some up

pub gained_more : (ups : Ups) (holders : List (List ℕ)) (first t : ℕ) (next : Option ℕ) (nodes new : List ℕ) → HasGained ups holders first (Some t) nodes
    → new ≡ nodes ++ row_of holders t → IfSome next (λ u. u ≡ above ups t) → IfNone next (above ups t ≡ t) → HasGained ups holders first next new
gained_more ups holders first t next nodes new gained is some none = subst (HasGained ups holders first next) (sym is) (record {
  sound = λ a there. elim (Contains-append_cases nodes (row_of holders t) a there) [
    | inl before ↦ gained.sound a before
    | inr holds ↦ held_one ups holders first t a gained.up holds
  ];
  done = λ x up. elim (gained.done x up) [
    | inl all ↦ inl (λ a holds. Contains-append_left nodes (row_of holders t) a (all a holds))
    | inr left ↦ elim (up_next ups x t next some none left) [
      | inl same ↦ inl (λ a holds. Contains-append_right nodes (row_of holders t) a (subst (λ n. Contains (row_of holders n) a) same holds))
      | inr more ↦ inr more
    ]
  ];
  up = next_up ups first t next some gained.up;
})

-- at the top all are there
pub gained_all : (ups : Ups) (holders : List (List ℕ)) (first : ℕ) (nodes : List ℕ) → HasGained ups holders first None nodes
    → (a : ℕ) → Contains nodes a ↔ IsHeldOver ups holders (first ∷ []) a
gained_all ups holders first nodes gained a = (
  gained.sound a,
  λ held. elim (Contains-push_cases [] first held.lower held.there) [
    | inl none ↦ absurd (omega (arith, none.1))
    | inr same ↦ elim (gained.done held.upper (subst (λ q. IsUp ups held.upper q) (sym same) held.over)) [
      | inl all ↦ all a held.holds
      | inr none ↦ absurd none
    ]
  ],
)
