-- Footprints that lie unused, and the jobs of a build with them.
use Rattle.std.proofs.Common.{◌≡◌, ℕ, suc, ◌+◌, ◌<◌, ◌≤◌, Bool, true, false, not, ◌&&◌, IfOk, List, [], ◌∷◌, ◌++◌, Option, None, Some, Result, Ok, Err, length, drop, get_or, slice_get, refl, sym, ap, subst, ◌∙◌, append_assoc, arith}
use Rattle.std.specs.Prelude.{if◌then◌else◌, is_some}
use Rattle.std.specs.List.{cons_option, enumerate_from, filter_map}
use Rattle.std.specs.Option.{option_to_list}
use Rattle.std.proofs.lemmas.List.{append-nil, drop_all, drop_more}
use Rattle.std.proofs.lemmas.List.FromFn.{get_or-enumerate_from, length-enumerate_from}
use Rattle.std.proofs.lemmas.Option.{none-some, same_Some, unwrap_or-slice_get}
use Rattle.mk_name.specs.Gives.{Answers, Gives, HaltsAmong}
use Rattle.mk_name.specs.Names.{Name}
use Rattle.mk_name.specs.Reported.{Reported}
use Rattle.mk_name.specs.declared.fault.Halt.{Halt}
use Rattle.mk_name.specs.declared.fault.Halt.TheVariants as halts
use Rattle.mk_jobs.specs.Jobs.{has_commands}
use Rattle.mk_jobs.specs.Plan.{Node, node_at, nobody}
use Rattle.mk_jobs.specs.declared.maker.Maker.{Maker}
use Rattle.mk_foot.specs.Footprints.{Footprints, footprint_at}
use Rattle.mk_race.specs.Stages.{IsPrepared, Texts}
use Rattle.mk_race.specs.Unused.{IsNoted, IsNotedBy, is_unused, strictly, unused_fault, unused_in, unused_number}
use Rattle.mk_race.specs.declared.unused.Noted.{Noted}
use Rattle.mk_race.specs.declared.unused.Unused.{Unused}

-- ---- the numbers of unused nodes

push_option : (xs rest : List ℕ) (o : Option ℕ) → (xs ++ option_to_list o) ++ rest ≡ xs ++ cons_option o rest
push_option xs rest None = ap (λ l. l ++ rest) (append-nil xs)
push_option xs rest (Some x) = append_assoc xs (x ∷ []) rest

node_here : (nodes : List Node) (n : ℕ) → n < length nodes → drop n (enumerate_from 0 nodes) ≡ (n, node_at nodes n) ∷ drop (n + 1) (enumerate_from 0 nodes)
node_here nodes n within =
    drop_more (enumerate_from 0 nodes) n (0, nobody) (omega (arith, within, length-enumerate_from 0 nodes))
    ∙ ap (λ x. x ∷ drop (n + 1) (enumerate_from 0 nodes))
    (get_or-enumerate_from 0 nodes n (0, nobody) within ∙ ap (λ m. (m, get_or nodes n nobody)) (omega arith)
    ∙ ap (λ (node : Node). (n, node)) (sym (unwrap_or-slice_get nodes n nobody)))

module _ (footprints : Footprints) (nodes : List Node) where
  -- those before a node, and those from it on, are all
  abbrev pub AreTo : ℕ → List ℕ → Type 0
  AreTo n numbers = numbers ++ filter_map (unused_number footprints) (drop n (enumerate_from 0 nodes)) ≡ unused_in footprints nodes

  -- one node further
  pub numbers_more : (n : ℕ) (numbers more : List ℕ) → n < length nodes → AreTo n numbers
      → more ≡ numbers ++ option_to_list (unused_number footprints (n, node_at nodes n)) → AreTo (n + 1) more
  numbers_more n numbers more within before grown =
      ap (λ l. l ++ filter_map (unused_number footprints) (drop (n + 1) (enumerate_from 0 nodes))) grown
      ∙ push_option numbers (filter_map (unused_number footprints) (drop (n + 1) (enumerate_from 0 nodes))) (unused_number footprints (n, node_at nodes n))
      ∙ ap (λ l. numbers ++ filter_map (unused_number footprints) l) (sym (node_here nodes n within))
      ∙ before

  -- behind the last node they are all
  pub numbers_all : (n : ℕ) (numbers : List ℕ) → length nodes ≤ n → AreTo n numbers → numbers ≡ unused_in footprints nodes
  numbers_all n numbers past so_far =
      sym (append-nil numbers)
      ∙ ap (λ l. numbers ++ filter_map (unused_number footprints) l) (sym (drop_all n (enumerate_from 0 nodes) (omega (arith, past, length-enumerate_from 0 nodes))))
      ∙ so_far

-- the first of them is the number of a node
first_or : (b : Bool) (rest : List ℕ) (from n bound : ℕ) → (slice_get rest 0 ≡ Some n → n < from + suc bound)
    → slice_get (cons_option (if b then Some from else None) rest) 0 ≡ Some n → n < from + suc bound
first_or true rest from n bound later e = let same : from ≡ n = same_Some _ _ e in omega (arith, same)
first_or false rest from n bound later e = later e

first_from : (footprints : Footprints) (nodes : List Node) (from n : ℕ) → slice_get (filter_map (unused_number footprints) (enumerate_from from nodes)) 0 ≡ Some n
    → n < from + length nodes
first_from footprints [] from n e = absurd (none-some n e)
first_from footprints (node ∷ nodes) from n e =
    first_or (is_unused footprints node) (filter_map (unused_number footprints) (enumerate_from (from + 1) nodes)) from n (length nodes)
    (λ first. let later : n < (from + 1) + length nodes = first_from footprints nodes (from + 1) n first in omega (arith, later)) e

pub first_within : (footprints : Footprints) (nodes : List Node) (numbers : List ℕ) (n : ℕ) → numbers ≡ unused_in footprints nodes → slice_get numbers 0 ≡ Some n
    → n < length nodes
first_within footprints nodes numbers n all first =
    let at : n < 0 + length nodes = first_from footprints nodes 0 n (ap (λ l. slice_get l 0) (sym all) ∙ first) in omega (arith, at)

module _ (footprints : Footprints) (nodes : List Node) (n : ℕ) (maker : Maker) (made : Bool) where
  -- a node that something makes is not unused
  pub made_is_used : maker ≡ (node_at nodes n).maker → made ≡ has_commands maker → made ≡ true → false ≡ is_unused footprints (node_at nodes n)
  made_is_used is has so =
      sym (ap (λ b. not b && is_some (footprint_at footprints (node_at nodes n).name)) (sym (ap has_commands is) ∙ sym has ∙ so))

  -- and any other is, where a line names it
  pub unmade_is_unused : (name : Name) (named : Bool) → maker ≡ (node_at nodes n).maker → made ≡ has_commands maker → made ≡ false → name ≡ (node_at nodes n).name
      → named ≡ is_some (footprint_at footprints name) → named ≡ is_unused footprints (node_at nodes n)
  unmade_is_unused name named is has so called given =
      given ∙ ap (λ x. is_some (footprint_at footprints x)) called
      ∙ sym (ap (λ b. not b && is_some (footprint_at footprints (node_at nodes n).name)) (sym (ap has_commands is) ∙ sym has ∙ so))

-- ---- the jobs with them

module _ (texts : Texts) (footprints : List ℕ) (strict : Bool) where
  -- a halt before is one of the whole
  pub not_noted_by : (halt : Halt) → HaltsAmong halt (IsNoted texts footprints) → HaltsAmong halt (IsNotedBy strict texts footprints)
  not_noted_by halts.Memory h = tt
  not_noted_by (halts.Fault reported) h = (Err reported, h, refl)

  pub strict_is : (noted : Noted) (result : Result Noted Halt) → IsNoted texts footprints (Ok noted) → strict ≡ true
      → Gives result (strictly noted noted.unused) → Answers result (IsNotedBy strict texts footprints)
  strict_is noted (Ok value) is so given = subst (λ (b : Bool). IsNotedBy b texts footprints (Ok value)) (sym so) (Ok noted, is, sym given)
  strict_is noted (Err halts.Memory) is so given = tt
  strict_is noted (Err (halts.Fault reported)) is so given =
      subst (λ (b : Bool). IsNotedBy b texts footprints (Err reported)) (sym so) (Ok noted, is, sym given)

  -- the jobs of a noted build are its jobs
  same_noted : (noted other : Noted) (unused : Option Unused) → ◌≡◌ {A = Result Noted Reported} (Ok noted) (strictly other unused) → noted ≡ other
  same_noted noted other None same = let e : ◌≡◌ {A = Result Noted Reported} (Ok noted) (Ok other) = same in cc
  same_noted noted other (Some unused) same = absurd (let e : ◌≡◌ {A = Result Noted Reported} (Ok noted) (Err (unused_fault unused)) = same in cc)

  either_noted : (b : Bool) (noted other : Noted) → ◌≡◌ {A = Result Noted Reported} (Ok noted) (if b then strictly other other.unused else Ok other) → noted ≡ other
  either_noted true noted other same = same_noted noted other other.unused same
  either_noted false noted other same = let e : ◌≡◌ {A = Result Noted Reported} (Ok noted) (Ok other) = same in cc

  prepared_of : (noted : Noted) → IsNotedBy strict texts footprints (Ok noted) → IsPrepared texts footprints (Ok noted.prepared)
  prepared_of noted (Ok other, is, same) =
      subst (λ (n : Noted). IsPrepared texts footprints (Ok n.prepared)) (sym (either_noted strict noted other same)) is.0
  prepared_of noted (Err reported, is, same) = absurd (let e : ◌≡◌ {A = Result Noted Reported} (Ok noted) (Err reported) = same in cc)

  pub prepared_by : (result : Result Noted Halt) → Answers result (IsNotedBy strict texts footprints) → IfOk result (λ noted. IsPrepared texts footprints (Ok noted.prepared))
  prepared_by (Ok noted) is = prepared_of noted is
  prepared_by (Err halt) is = tt

  pub lax_is : (noted : Noted) → IsNoted texts footprints (Ok noted) → strict ≡ false → IsNotedBy strict texts footprints (Ok noted)
  lax_is noted is lax = subst (λ (b : Bool). IsNotedBy b texts footprints (Ok noted)) (sym lax) (Ok noted, is, refl)
