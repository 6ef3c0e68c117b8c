-- Operands that define macros: where one is bad, and what the goals of the others are.
use Rattle.std.proofs.Common.{◌≡◌, ◌∙◌, ℕ, ◌+◌, ◌-◌, ◌<◌, ◌≤◌, Bool, true, false, cond, not, ◌&&◌, List, [], ◌∷◌, Option, None, Some, Result, Ok, Err, length, take, get_or, map, refl, ap, subst, sym, arith}
use Rattle.std.specs.Prelude.{fold, if◌then◌else◌, nat_lt}
use Rattle.std.specs.Borrow.{Bor}
use Rattle.std.specs.List.{All, position, position_or_len}
use Rattle.std.specs.Option.{option_map_or}
use Rattle.std.proofs.lemmas.Bool.{ltb-false}
use Rattle.std.proofs.lemmas.List.{get_or-map, get_or-take, length-map, length-take-le}
use Rattle.std.proofs.lemmas.List.Quantifiers.{position-Some}
use Rattle.std.proofs.lemmas.List.Sums.{fails_before_first}
use Rattle.mk_name.specs.Names.{Name}
use Rattle.mk_name.specs.Reported.{Reported}
use Rattle.mk_macro.specs.Macros.{Macros, no_macros}
use Rattle.mk_macro.specs.Operands.{is_bad, is_definition, operand_fault, operand_macros, with_operand}
use Rattle.mk_text.specs.Spelling.{word_name}
use Rattle.mk_race.specs.Settings.{goals_at, goals_in, goals_of, in_settings, no_goal, one_goal}
use Rattle.mk_race.proofs.GoalsLemmas.{goals_fault}

-- the bytes of operands
abbrev bytes : List (Bor Name) → List Name
bytes operands = map (λ (operand : Bor Name). operand.now) operands

-- the macros, or the fault of the first bad operand, which has this place from 0
abbrev macros_by : Option ℕ → Macros → Result Macros Reported
macros_by place macros = option_map_or (λ n. Err (operand_fault (n + 1))) place (Ok macros)

same_fault : (x y : Reported) → ◌≡◌ {A = Result Macros Reported} (Err x) (Err y) → x ≡ y
same_fault x y e = cc

none_where_ok : (place : Option ℕ) (macros given : Macros) → macros_by place macros ≡ Ok given → place ≡ None
none_where_ok None macros given e = refl
none_where_ok (Some n) macros given e = absurd (cc e)

some_where_fault : (place : Option ℕ) (macros : Macros) (fault : Reported) → macros_by place macros ≡ Err fault
    → (n : ℕ) × (place ≡ Some n) × (fault ≡ operand_fault (n + 1))
some_where_fault None macros fault e = absurd (cc e)
some_where_fault (Some n) macros fault e = (n, refl, sym (same_fault (operand_fault (n + 1)) fault e))

none_by : (b : Bool) (n : ℕ) → cond b (Some n) None ≡ None → b ≡ false
none_by true n e = absurd (cc e)
none_by false n e = refl

-- where the operands define macros, none of them is bad
pub all_good : (operands : List (Bor Name)) (macros : Macros) → operand_macros (bytes operands) ≡ Ok macros
    → All (λ (operand : Bor Name). is_bad operand.now ≡ false) operands
all_good operands macros e = λ i d within.
    let none : position is_bad (bytes operands) ≡ None =
    none_where_ok (position is_bad (bytes operands)) (fold with_operand no_macros (bytes operands)) macros e in
    let past : length (bytes operands) ≤ position_or_len is_bad (bytes operands) = ltb-false _ _ (none_by _ _ none) in
    let before : i < position_or_len is_bad (bytes operands) =
    omega (arith, within, past, length-map operands (λ (operand : Bor Name). operand.now)) in
    ap is_bad (sym (get_or-map (λ (operand : Bor Name). operand.now) operands i d d.now within))
    ∙ fails_before_first is_bad (bytes operands) i d.now before

-- the first bad operand, whose fault this is
pub record IsFirstBad (operands : List (Bor Name)) (fault : Reported) : Type 0 where
  pub place : ℕ
  pub within : place < length operands
  pub reported : fault ≡ operand_fault (place + 1)
  pub bad : (d : Bor Name) → is_bad (get_or operands place d).now ≡ true
  pub before : All (λ (operand : Bor Name). is_bad operand.now ≡ false) (take place operands)

-- where the operands have a fault, it is that of the first bad one
pub first_bad : (operands : List (Bor Name)) (fault : Reported) → operand_macros (bytes operands) ≡ Err fault → IsFirstBad operands fault
first_bad operands fault e =
    let at = some_where_fault (position is_bad (bytes operands)) (fold with_operand no_macros (bytes operands)) fault e in
    let found = position-Some is_bad (bytes operands) at.0 [] at.1 in
    let inside : at.0 < length operands = omega (arith, found.0, length-map operands (λ (operand : Bor Name). operand.now)) in
    record {
      place = at.0;
      within = inside;
      reported = at.2;
      bad = λ d. ap is_bad (sym (get_or-map (λ (operand : Bor Name). operand.now) operands at.0 d [] inside)) ∙ found.1;
      before = λ i d within.
          let full : at.0 ≤ length operands = omega (arith, inside) in
          let here : i < at.0 = omega (arith, within, length-take-le at.0 operands full) in
          let there : i < length operands = omega (arith, here, inside) in
          ap (λ (operand : Bor Name). is_bad operand.now) (get_or-take at.0 operands i d here)
          ∙ ap is_bad (sym (get_or-map (λ (operand : Bor Name). operand.now) operands i d [] there)) ∙ found.2 i here;
    }

-- the place of a bad operand that stands alone
abbrev place_by : Bool → Option ℕ
place_by bad = cond (nat_lt (cond (not bad) 1 0) 1) (Some (cond (not bad) 1 0)) None

place_of : (operand : Name) (bad : Bool) → is_bad operand ≡ bad → position is_bad (operand ∷ []) ≡ place_by bad
place_of operand bad e = ap place_by e

-- what a definition names
defined_goals : (root operand : Name) (bad : Bool) → is_definition operand ≡ true → is_bad operand ≡ bad
    → goals_in root operand ≡ no_goal (macros_by (place_by bad) (fold with_operand no_macros (operand ∷ [])))
defined_goals root operand bad defines e =
    ap (λ (b : Bool). if b then no_goal (operand_macros (operand ∷ [])) else one_goal (word_name root operand)) defines
    ∙ ap (λ (o : Option ℕ). no_goal (macros_by o (fold with_operand no_macros (operand ∷ [])))) (place_of operand bad e)

-- one that is not bad names no goal
pub no_goal_of : (root operand : Name) → is_definition operand ≡ true → is_bad operand ≡ false → goals_in root operand ≡ Ok []
no_goal_of root operand defines good = defined_goals root operand false defines good

and_first : (a b : Bool) → (a && b) ≡ true → a ≡ true
and_first true b e = refl
and_first false b e = e

-- and a bad one has its fault
bad_fault : (root operand : Name) (place : ℕ) → is_bad operand ≡ true → goals_at root (place, operand) ≡ Err (operand_fault place)
bad_fault root operand place bad = ap (in_settings place) (defined_goals root operand true (and_first _ _ bad) bad)

-- so the fault of the first bad operand is the first fault, where no goal before it has one
bad_first : (root : Name) (operands : List (Bor Name)) (fault : Reported) (first : IsFirstBad operands fault) (names : List Name)
    → goals_of root (bytes (take first.place operands)) ≡ Ok names → goals_of root (bytes operands) ≡ Err fault
bad_first root [] fault first names before = let none : first.place < 0 = first.within in absurd (omega (arith, none))
bad_first root (x ∷ operands) fault first names before =
    goals_fault root (x ∷ operands) first.place x names fault first.within before
    (bad_fault root (get_or (x ∷ operands) first.place x).now (first.place + 1) (first.bad x) ∙ ap Err (sym first.reported))

module _ (operands : List (Bor Name)) (fault : Reported) (place : ℕ) (is : operand_macros (bytes operands) ≡ Err fault)
    (at : place ≡ fault.place) where
  place_is : (first_bad operands fault is).place ≡ place - 1
  place_is =
      let first = first_bad operands fault is in
      let there : fault.place ≡ first.place + 1 = ap (λ (f : Reported). f.place) first.reported in
      omega (arith, at, there)

  -- the operands to the left of the first bad one
  pub good_to_the_left : All (λ (operand : Bor Name). is_bad operand.now ≡ false) (take (place - 1) operands)
  good_to_the_left =
      subst (λ n. All (λ (operand : Bor Name). is_bad operand.now ≡ false) (take n operands)) place_is (first_bad operands fault is).before

  pub fault_of_all : (root : Name) (names : List Name) → goals_of root (bytes (take (place - 1) operands)) ≡ Ok names
      → goals_of root (bytes operands) ≡ Err fault
  fault_of_all root names before =
      bad_first root operands fault (first_bad operands fault is) names
      (subst (λ n. goals_of root (bytes (take n operands)) ≡ Ok names) (sym place_is) before)
