-- Ways up from a number.
use Rattle.std.proofs.Common.{ℕ, ◌≡◌, ◌<◌, ◌⊎◌, List, [], ◌∷◌, Option, Some, None, IfSome, IfNone, Contains, refl, sym, ap, subst, ◌∙◌, inl, inr, arith}
use Rattle.mk_index.specs.Table.{row_of}
use Rattle.mk_index.specs.Ups.{Ups, IsUp, here, higher, IsUpOf, IsHeldOver, above, rank_at}

-- what stands above t stands above what t stands above
pub up_trans : (ups : Ups) (x t : ℕ) {q : ℕ} → IsUp ups x t → IsUp ups t q → IsUp ups x q
up_trans ups x t up here = up
up_trans ups x t up (higher more) = higher (up_trans ups x t up more)

pub up_of_trans : (ups : Ups) (x t : ℕ) (o : Option ℕ) → IsUp ups x t → IsUpOf ups t o → IsUpOf ups x o
up_of_trans ups x t None up none = none
up_of_trans ups x t (Some q) up more = up_trans ups x t up more

-- above the top there is nothing
pub top_is : (ups : Ups) (x : ℕ) {q : ℕ} → above ups q ≡ q → IsUp ups x q → x ≡ q
top_is ups x top here = refl
top_is ups x top (higher up) = top_is ups x (ap (above ups) top) up ∙ top

pub up_cases : (ups : Ups) (x : ℕ) {q : ℕ} → IsUp ups x q → (x ≡ q) ⊎ IsUp ups x (above ups q)
up_cases ups x here = inl refl
up_cases ups x (higher up) = inr up

-- what stands above a number is it, or stands above the next one
pub up_next : (ups : Ups) (x t : ℕ) (o : Option ℕ) → IfSome o (λ u. u ≡ above ups t) → IfNone o (above ups t ≡ t) → IsUp ups x t
    → (x ≡ t) ⊎ IsUpOf ups x o
up_next ups x t None some none up = inl (top_is ups x none up)
up_next ups x t (Some u) some none up = elim (up_cases ups x up) [ inl same ↦ inl same | inr more ↦ inr (subst (λ n. IsUp ups x n) (sym some) more) ]

-- the next one stands above what the number stands above
pub up_more : (ups : Ups) (t u : ℕ) (o : Option ℕ) → u ≡ above ups t → IsUpOf ups t o → IsUpOf ups u o
up_more ups t u o is up = up_of_trans ups u t o (subst (λ n. IsUp ups n t) (sym is) (higher {q = t} here)) up

-- a number of high rank is passed by a step up from it
pub passed_more : (ups : Ups) (t u limit : ℕ) (o : Option ℕ) → u ≡ above ups t → limit < rank_at ups t
    → ((x : ℕ) → IsUpOf ups x o → IsUp ups x t ⊎ (limit < rank_at ups x)) → (x : ℕ) → IsUpOf ups x o → IsUp ups x u ⊎ (limit < rank_at ups x)
passed_more ups t u limit o is high passed x up = elim (passed x up) [
  | inr more ↦ inr more
  | inl there ↦ elim (up_cases ups x there) [
    | inl same ↦ inr (subst (λ n. limit < rank_at ups n) (sym same) high)
    | inr next ↦ inl (subst (λ n. IsUp ups x n) (sym is) next)
  ]
]

-- who holds a number above this one
pub held_one : (ups : Ups) (holders : List (List ℕ)) (q t a : ℕ) → IsUp ups t q → Contains (row_of holders t) a → IsHeldOver ups holders (q ∷ []) a
held_one ups holders q t a up holds = record { lower = q; there = (0, omega arith, refl); upper = t; over = up; holds = holds }

-- each number is on its own way up
pub up_itself : (ups : Ups) (o : Option ℕ) → IfSome o (λ t. IsUpOf ups t o)
up_itself ups None = tt
up_itself ups (Some q) = here

pub up_of_some : (ups : Ups) (o p last : Option ℕ) → IfSome o (λ t. IsUpOf ups t p) → IfSome p (λ s. IsUpOf ups s last) → IfSome o (λ t. IsUpOf ups t last)
up_of_some ups None p last up more = tt
up_of_some ups (Some t) None last none more = absurd none
up_of_some ups (Some t) (Some s) last up more = up_of_trans ups t s last up more
