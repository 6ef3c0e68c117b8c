-- Marks of those that hold numbers on a way up.
use Rattle.std.proofs.Common.{ℕ, ◌≡◌, ◌<◌, ◌≤◌, ◌+◌, ◌↔◌, ◌⊎◌, List, [], ◌∷◌, ◌++◌, length, take, get_or, Option, Some, None, IfSome, IfNone, Contains, refl, sym, subst, ◌∙◌, inl, inr, arith, eqb, true}
use Rattle.std.specs.Option.{option_eq}
use Rattle.std.proofs.lemmas.Bool.{eqb-true, both_ways}
use Rattle.std.proofs.lemmas.List.{take_more, take_all}
use Rattle.std.proofs.lemmas.List.Elements.{Contains-append_left, Contains-push, Contains-push_cases, Contains-get_or}
use Rattle.mk_index.specs.Bits.{HasBit}
use Rattle.mk_index.specs.Table.{row_of}
use Rattle.mk_index.specs.Ups.{Ups, IsUp, here, IsUpOf, IsHeldOver, above}
use Rattle.mk_index.specs.Marks.{AreMarked}
use Rattle.mk_index.proofs.Ascents.{up_of_trans, up_next, up_more, held_one}

-- a row gains these bits
abbrev pub Gains : List ℕ → List ℕ → List ℕ → Type 0
Gains nodes old row = (a : ℕ) → HasBit row a ↔ (HasBit old a ⊎ Contains nodes a)

pub marks_none : (old : List ℕ) → Gains [] old old
marks_none old = λ a. (λ has. inl has, λ has. elim has [ inl has ↦ has | inr there ↦ absurd (omega (arith, there.1)) ])

pub marks_more : (nodes : List ℕ) (i : ℕ) (old row new : List ℕ) → i < length nodes → Gains (take i nodes) old row
    → ((k : ℕ) → HasBit new k ↔ (HasBit row k ⊎ (k ≡ get_or nodes i 0))) → Gains (take (i + 1) nodes) old new
marks_more nodes i old row new below gains sets =
    let n = get_or nodes i 0 in
    subst (λ (ns : List ℕ). Gains ns old new) (sym (take_more nodes i 0 below)) (λ a. (
      λ has. elim ((sets a).0 has) [
        | inl before ↦ elim ((gains a).0 before) [ inl first ↦ inl first | inr there ↦ inr (Contains-append_left (take i nodes) (n ∷ []) a there) ]
        | inr same ↦ inr (subst (Contains (take i nodes ++ n ∷ [])) (sym same) (Contains-push (take i nodes) n))
      ],
      λ has. elim has [
        | inl first ↦ (sets a).1 (inl ((gains a).1 (inl first)))
        | inr there ↦ elim (Contains-push_cases (take i nodes) n a there) [
          | inl before ↦ (sets a).1 (inl ((gains a).1 (inr before)))
          | inr same ↦ (sets a).1 (inr (sym same))
        ]
      ],
    ))

pub marks_all : (nodes : List ℕ) (i : ℕ) (old row : List ℕ) → length nodes ≤ i → Gains (take i nodes) old row → Gains nodes old row
marks_all nodes i old row past gains = subst (λ (ns : List ℕ). Gains ns old row) (take_all i nodes past) gains

-- a climb as far as a next number
pub record HasClimbed (ups : Ups) (holders : List (List ℕ)) (first : ℕ) (last next : Option ℕ) (old row : List ℕ) : Type 0 where
  pub kept : (a : ℕ) → HasBit old a → HasBit row a
  pub sound : (a : ℕ) → HasBit row a → HasBit old a ⊎ IsHeldOver ups holders (first ∷ []) a
  pub done : (t : ℕ) → IsUp ups t first → (AreMarked row (row_of holders t) ⊎ IsUpOf ups t last) ⊎ IsUpOf ups t next
  pub up : IfSome next (λ t. IsUp ups t first)

pub climb_begins : (ups : Ups) (holders : List (List ℕ)) (first : ℕ) (last : Option ℕ) (old : List ℕ) → HasClimbed ups holders first last (Some first) old old
climb_begins ups holders first last old = record { kept = λ a has. has; sound = λ a has. inl has; done = λ t up. inr up; up = here }

next_up : (ups : Ups) (first t : ℕ) (o : Option ℕ) → IfSome o (λ u. u ≡ above ups t) → IsUp ups t first → IfSome o (λ u. IsUp ups u first)
next_up ups first t None some up = tt
next_up ups first t (Some u) some up = up_more ups t u (Some first) some up

pub climb_goes : (ups : Ups) (holders : List (List ℕ)) (first t : ℕ) (last next : Option ℕ) (old row new : List ℕ) → HasClimbed ups holders first last (Some t) old row
    → Gains (row_of holders t) row new → IfSome next (λ u. u ≡ above ups t) → IfNone next (above ups t ≡ t) → HasClimbed ups holders first last next old new
climb_goes ups holders first t last next old row new climbed gains some none = record {
  kept = λ a has. (gains a).1 (inl (climbed.kept a has));
  sound = λ a has. elim ((gains a).0 has) [ inl before ↦ climbed.sound a before | inr holds ↦ inr (held_one ups holders first t a climbed.up holds) ];
  done = λ x up. elim (climbed.done x up) [
    | inl (inl marked) ↦ inl (inl (λ a holds. (gains a).1 (inl (marked a holds))))
    | inl (inr seen) ↦ inl (inr seen)
    | inr left ↦ elim (up_next ups x t next some none left) [
      | inl same ↦ inl (inl (λ a holds. (gains a).1 (inr (subst (λ n. Contains (row_of holders n) a) same holds))))
      | inr more ↦ inr more
    ]
  ];
  up = next_up ups first t next some climbed.up;
}

-- it ends at the top, or where the way up from the last one is met
pub climb_ends : (ups : Ups) (holders : List (List ℕ)) (first : ℕ) (last next : Option ℕ) (old row : List ℕ) → HasClimbed ups holders first last next old row
    → ((t : ℕ) → next ≡ Some t → IsUpOf ups t last) → (t : ℕ) → IsUp ups t first → AreMarked row (row_of holders t) ⊎ IsUpOf ups t last
climb_ends ups holders first last None old row climbed met t up = elim (climbed.done t up) [ inl found ↦ found | inr none ↦ absurd none ]
climb_ends ups holders first last (Some s) old row climbed met t up =
    elim (climbed.done t up) [ inl found ↦ found | inr more ↦ inr (up_of_trans ups t s last more (met s refl)) ]

-- all that hold some numbers, or others above them
pub record AreOverMarked (ups : Ups) (holders : List (List ℕ)) (mine : List ℕ) (i : ℕ) (last : Option ℕ) (old row : List ℕ) : Type 0 where
  pub kept : (a : ℕ) → HasBit old a → HasBit row a
  pub sound : (a : ℕ) → HasBit row a → HasBit old a ⊎ IsHeldOver ups holders mine a
  pub done : (q t : ℕ) → Contains (take i mine) q → IsUp ups t q → AreMarked row (row_of holders t)
  pub met : IfSome last (Contains (take i mine))

pub over_none : (ups : Ups) (holders : List (List ℕ)) (mine old : List ℕ) → AreOverMarked ups holders mine 0 None old old
over_none ups holders mine old =
    record { kept = λ a has. has; sound = λ a has. inl has; done = λ q t there up. absurd (omega (arith, there.1)); met = tt }

seen_marked : (ups : Ups) (holders : List (List ℕ)) (mine : List ℕ) (i : ℕ) (last : Option ℕ) (old row : List ℕ) (t : ℕ)
    → AreOverMarked ups holders mine i last old row → IsUpOf ups t last → AreMarked row (row_of holders t)
seen_marked ups holders mine i None old row t over none = absurd none
seen_marked ups holders mine i (Some q) old row t over up = over.done q t over.met up

pub over_more : (ups : Ups) (holders : List (List ℕ)) (mine : List ℕ) (i : ℕ) (last : Option ℕ) (old row new : List ℕ) → i < length mine
    → AreOverMarked ups holders mine i last old row → ((a : ℕ) → HasBit row a → HasBit new a)
    → ((a : ℕ) → HasBit new a → HasBit row a ⊎ IsHeldOver ups holders (get_or mine i 0 ∷ []) a)
    → ((t : ℕ) → IsUp ups t (get_or mine i 0) → AreMarked new (row_of holders t) ⊎ IsUpOf ups t last)
    → AreOverMarked ups holders mine (i + 1) (Some (get_or mine i 0)) old new
over_more ups holders mine i last old row new below over kept sound marked =
    let q = get_or mine i 0 in
    let more = take_more mine i 0 below in
    record {
      kept = λ a has. kept a (over.kept a has);
      sound = λ a has. elim (sound a has) [
        | inl before ↦ over.sound a before
        | inr held ↦ elim (Contains-push_cases [] q held.lower held.there) [
          | inl none ↦ absurd (omega (arith, none.1))
          | inr same ↦ inr (record { lower = held.lower; there = subst (Contains mine) same (Contains-get_or mine i 0 below); upper = held.upper; over = held.over; holds = held.holds })
        ]
      ];
      done = λ p t there up. elim (Contains-push_cases (take i mine) q p (subst (λ (ns : List ℕ). Contains ns p) more there)) [
        | inl before ↦ λ a holds. kept a (over.done p t before up a holds)
        | inr same ↦ elim (marked t (subst (λ n. IsUp ups t n) (sym same) up)) [
          | inl now ↦ now
          | inr seen ↦ λ a holds. kept a (seen_marked ups holders mine i last old row t over seen a holds)
        ]
      ];
      met = subst (λ (ns : List ℕ). Contains ns q) (sym more) (Contains-push (take i mine) q);
    }

pub over_all : (ups : Ups) (holders : List (List ℕ)) (mine : List ℕ) (i : ℕ) (last : Option ℕ) (old row : List ℕ) → length mine ≤ i
    → AreOverMarked ups holders mine i last old row → (a : ℕ) → HasBit row a ↔ (HasBit old a ⊎ IsHeldOver ups holders mine a)
over_all ups holders mine i last old row past over a = (
  over.sound a,
  λ has. elim has [
    | inl first ↦ over.kept a first
    | inr held ↦ over.done held.lower held.upper (subst (λ (ns : List ℕ). Contains ns held.lower) (sym (take_all i mine past)) held.there) held.over a held.holds
  ],
)

-- a climb meets the way up from the last one
pub met_is : (ups : Ups) (next seen last : Option ℕ) (t : ℕ) → next ≡ Some t → option_eq eqb seen (Some t) ≡ true → IfSome seen (λ s. IsUpOf ups s last)
    → (x : ℕ) → next ≡ Some x → IsUpOf ups x last
met_is ups next None last t is same up x is' = absurd (both_ways _ refl same)
met_is ups next (Some s) last t is same up x is' =
    let one : Some t ≡ Some x = sym is ∙ is' in
    let met : s ≡ x = eqb-true s t same ∙ cc in
    subst (λ n. IsUpOf ups n last) met up
