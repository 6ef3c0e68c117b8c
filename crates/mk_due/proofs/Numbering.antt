-- Numbers of nodes: those of tasks, and which are below a bound.
use Rattle.std.proofs.Common.{ℕ, ◌≡◌, ◌∙◌, ◌<◌, ◌≤◌, ◌+◌, Bool, true, false, cond, List, [], ◌∷◌, ◌++◌, Option, None, Some, Result, Ok, Err, arith, length, refl, sym, ap, subst, inl, inr}
use Rattle.std.specs.Prelude.{◌&&◌, ◌||◌, find, fold, is_none, is_some, nat_eq, not, IsTrue}
use Rattle.std.specs.BTreeSet.{insert_key}
use Rattle.std.specs.Cmp.{unsigned_ties}
use Rattle.std.specs.Cmp.Lexicographic.{slice_cmp, texts_ties}
use Rattle.std.specs.List.{All, cons_option, filter_map, list_any, position_from}
use Rattle.std.specs.Option.{option_map_or}
use Rattle.std.specs.Ordering.{is_eq, nat_cmp}
use Rattle.std.proofs.lemmas.Bool.{and_parts, both_ways, cases_Bool, cond-true, cond-false, or_cases, or_left, or_right}
use Rattle.std.proofs.lemmas.Cmp.{nat_eq_equiv}
use Rattle.std.proofs.lemmas.Iterator.Adapters.{position_from-zero}
use Rattle.std.proofs.lemmas.List.{length-map}
use Rattle.std.proofs.lemmas.List.Elements.{All-cons, All-filter, All-head, All-nil, All-tail}
use Rattle.std.proofs.lemmas.List.Quantifiers.{position-Some}
use Rattle.std.proofs.lemmas.Map.Views.{All-insert_key}
use Rattle.mk_name.specs.Names.{Name, has, same_name}
use Rattle.mk_name.specs.Reported.{Reported}
use Rattle.mk_name.specs.declared.fault.Kind.TheVariants.{UnknownTask}
use Rattle.mk_name.proofs.Names.{name_is_exact, nat_is_exact}
use Rattle.mk_jobs.specs.Jobs.{has_commands}
use Rattle.mk_jobs.specs.Numbered.{number_of}
use Rattle.mk_jobs.specs.Plan.{nobody}
use Rattle.mk_jobs.proofs.Numberings.{number_some}
use Rattle.mk_task.specs.Tasks.{reported}
use Rattle.mk_due.specs.Good.{AreBelow, IsNew}
use Rattle.mk_due.specs.Items.{DueItem, is_task, names_of, numbers_of, others, task_number, waits_among}

-- the first place of a test in a list with one item more
module _ {X : Type 0} (test : X → Bool) where
  from_other : (n : ℕ) (xs : List X) (x : X) → test x ≡ false → position_from test n (xs ++ x ∷ []) ≡ position_from test n xs
  from_other n [] x h = cond-false (test x) _ _ h
  from_other n (y ∷ ys) x h = ap (λ o. cond (test y) (Some n) o) (from_other (n + 1) ys x h)

  from_new : (n : ℕ) (xs : List X) (x : X) → position_from test n xs ≡ None → test x ≡ true → position_from test n (xs ++ x ∷ []) ≡ Some (n + length xs)
  from_new n [] x none t = cond-true (test x) _ _ t ∙ ap Some (omega arith)
  from_new n (y ∷ ys) x none t = elim (cases_Bool (test y)) [
    | inl here ↦ absurd (let e : Some n ≡ None = sym (cond-true (test y) (Some n) _ here) ∙ none in cc)
    | inr other ↦
        cond-false (test y) _ _ other ∙ from_new (n + 1) ys x (sym (cond-false (test y) (Some n) _ other) ∙ none) t ∙ ap Some (omega arith)
  ]

none_of : (o : Option ℕ) → is_some o ≡ false → o ≡ None
none_of None h = refl
none_of (Some n) h = absurd (both_ways _ h refl)

number_from : (items : List DueItem) (label : Name) → task_number items label ≡ position_from (is_task label) 0 items
number_from items label = position_from-zero (is_task label) items

-- the number of a task behind one item more, whose label is new
pub task_push : (items : List DueItem) (item : DueItem) (label : Name) → IsNew items item.label
    → task_number (items ++ item ∷ []) label ≡ cond (is_task label item) (Some (length items)) (task_number items label)
task_push items item label new = elim (cases_Bool (is_task label item)) [
  | inl task ↦
      let same : item.label ≡ label = name_is_exact.equal item.label label (and_parts (has_commands item.node.maker) _ task).1 in
      let none : task_number items label ≡ None = none_of _ (subst (λ (x : Name). IsNew items x) same new) in
      number_from (items ++ item ∷ []) label
      ∙ from_new (is_task label) 0 items item (sym (number_from items label) ∙ none) task ∙ ap Some (omega arith)
      ∙ sym (cond-true (is_task label item) _ _ task)
  | inr other ↦
      number_from (items ++ item ∷ []) label ∙ from_other (is_task label) 0 items item other ∙ sym (number_from items label)
      ∙ sym (cond-false (is_task label item) _ _ other)
]

-- with one item more that is no task the same tasks are there
pub new_push : (items : List DueItem) (item : DueItem) (label : Name) → has_commands item.node.maker ≡ false → IsNew items label
    → IsNew (items ++ item ∷ []) label
new_push items item label idle new =
    ap is_some (number_from (items ++ item ∷ []) label
    ∙ from_other (is_task label) 0 items item (ap (λ b. b && same_name item.label label) idle) ∙ sym (number_from items label)) ∙ new

task_below : (items : List DueItem) (label : Name) (n : ℕ) → task_number items label ≡ Some n → n < length items
task_below items label n is = (position-Some (is_task label) items n (record { label = label; place = 0; reads = []; writes = []; node = nobody }) is).0

-- what holds of the numbers that are found, and of others, holds of these put among the others
pub found_all : (f : Name → Option ℕ) (P : ℕ → Type 0) (some : List Name) (numbers : List ℕ) → ((x : Name) (n : ℕ) → has same_name some x ≡ true → f x ≡ Some n → P n)
    → All P numbers → All P (fold (insert_key nat_cmp) numbers (filter_map f some))
found_all f P [] numbers each all = all
found_all f P (x ∷ some) numbers each all = by (f x) refl (λ more. found_all f P some more (λ y n later is. each y n (or_right (same_name x y) _ later) is))
  where
    by : (o : Option ℕ) → f x ≡ o → ((more : List ℕ) → All P more → All P (fold (insert_key nat_cmp) more (filter_map f some)))
        → All P (fold (insert_key nat_cmp) numbers (cons_option o (filter_map f some)))
    by None e later = later numbers all
    by (Some n) e later = later (insert_key nat_cmp numbers n) (All-insert_key nat_cmp n P numbers all (each x n (or_left (same_name x x) _ (name_is_exact.itself x)) e))

-- the numbers that are answered
waits_are : (place : ℕ) (items : List DueItem) (numbers : List ℕ) (after : List Name) (waits : List ℕ) → waits_among place items numbers after ≡ Ok waits
    → waits ≡ fold (insert_key nat_cmp) numbers (filter_map (task_number items) after)
waits_are place items numbers after waits is = by (find (λ x. is_none (task_number items x)) after) is
  where
    all : List ℕ
    all = fold (insert_key nat_cmp) numbers (filter_map (task_number items) after)

    by : (o : Option Name) → option_map_or (λ x. Err (reported UnknownTask place (x ∷ []))) o (Ok all) ≡ Ok waits → waits ≡ all
    by None e = (let g : ◌≡◌ {A = Result (List ℕ) Reported} (Ok all) (Ok waits) = e in cc)
    by (Some x) e = absurd (let g : ◌≡◌ {A = Result (List ℕ) Reported} (Err (reported UnknownTask place (x ∷ []))) (Ok waits) = e in cc)

pub waits_below : (place : ℕ) (items : List DueItem) (after : List Name) (waits : List ℕ) → waits_among place items [] after ≡ Ok waits → AreBelow (length items) waits
waits_below place items after waits is =
    subst (AreBelow (length items)) (sym (waits_are place items [] after waits is))
    (found_all (task_number items) (λ n. n < length items) after [] (λ x n later found. task_below items x n found) (All-nil _))

-- one label more
pub waits_more : (place : ℕ) (items : List DueItem) (numbers : List ℕ) (x : Name) (after : List Name) (n : ℕ) → task_number items x ≡ Some n
    → waits_among place items numbers (x ∷ after) ≡ waits_among place items (insert_key nat_cmp numbers n) after
waits_more place items numbers x after n is = ap (λ o. option_map_or (λ y. Err (reported UnknownTask place (y ∷ [])))
    (cond (is_none o) (Some x) (find (λ y. is_none (task_number items y)) after)) (Ok (fold (insert_key nat_cmp) numbers (cons_option o (filter_map (task_number items) after))))) is

pub waits_unknown : (place : ℕ) (items : List DueItem) (numbers : List ℕ) (x : Name) (after : List Name) → task_number items x ≡ None
    → waits_among place items numbers (x ∷ after) ≡ Err (reported UnknownTask place (x ∷ []))
waits_unknown place items numbers x after is = ap (λ o. option_map_or (λ y. Err (reported UnknownTask place (y ∷ [])))
    (cond (is_none o) (Some x) (find (λ y. is_none (task_number items y)) after)) (Ok (fold (insert_key nat_cmp) numbers (cons_option o (filter_map (task_number items) after))))) is

-- the numbers of names are those of nodes
pub numbers_below : (items : List DueItem) (some : List Name) → AreBelow (length items) (numbers_of (names_of items) some)
numbers_below items some =
    subst (λ n. AreBelow n (numbers_of (names_of items) some)) (length-map items (λ (item : DueItem). item.node.name))
    (found_all (number_of (names_of items)) (λ n. n < length (names_of items)) some [] (λ x n later found. (number_some (names_of items) x n found).0) (All-nil _))

-- they stay so, also without some of them
pub below_more : (bound more : ℕ) (numbers : List ℕ) → bound ≤ more → AreBelow bound numbers → AreBelow more numbers
below_more bound more [] least below = All-nil _
below_more bound more (n ∷ numbers) least below =
    let here : n < bound = All-head (λ k. k < bound) n numbers below in
    All-cons (λ k. k < more) n numbers (omega (arith, here, least)) (below_more bound more numbers least (All-tail (λ k. k < bound) n numbers below))

pub others_below : (bound : ℕ) (needs waits : List ℕ) → AreBelow bound waits → AreBelow bound (others needs waits)
others_below bound needs waits below = All-filter (λ n. not (has nat_eq needs n)) (λ k. k < bound) waits below

-- one that stands among them is below
pub has_below : (bound : ℕ) (numbers : List ℕ) (p : ℕ) → AreBelow bound numbers → IsTrue (has nat_eq numbers p) → p < bound
has_below bound [] p below here = absurd (both_ways _ refl here)
has_below bound (x ∷ xs) p below here = elim (or_cases (nat_eq x p) (has nat_eq xs p) here) [
  | inl same ↦ subst (λ n. n < bound) (nat_is_exact.equal x p same) (All-head (λ k. k < bound) x xs below)
  | inr later ↦ has_below bound xs p (All-tail (λ k. k < bound) x xs below) later
]

-- a set of numbers has those that are among its keys
pub has_number : (numbers : List ℕ) (n : ℕ) → list_any (λ k. is_eq (nat_cmp n k)) numbers ≡ has nat_eq numbers n
has_number [] n = refl
has_number (k ∷ ks) n =
    let here = sym (unsigned_ties n k) ∙ nat_eq_equiv.symm n k in
    let later = has_number ks n in
    λ i. here i || later i

-- the others, one after another
pub others_skip : (needs waits : List ℕ) (n : ℕ) → has nat_eq needs n ≡ true → others needs (n ∷ waits) ≡ others needs waits
others_skip needs waits n needed = cond-false (not (has nat_eq needs n)) (n ∷ others needs waits) (others needs waits) (ap not needed)

pub others_take : (needs waits : List ℕ) (n : ℕ) → has nat_eq needs n ≡ false → others needs (n ∷ waits) ≡ n ∷ others needs waits
others_take needs waits n other = cond-true (not (has nat_eq needs n)) (n ∷ others needs waits) (others needs waits) (ap not other)

-- an item under its label
pub noted : (item : DueItem) (key label : Name) → has_commands item.node.maker ≡ true → key ≡ item.label → is_eq (slice_cmp nat_cmp key label) ≡ is_task label item
noted item key label task same =
    sym (texts_ties key label) ∙ ap (λ k. same_name k label) same ∙ ap (λ b. b && same_name item.label label) (sym task)
