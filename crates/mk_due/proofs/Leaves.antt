-- Leaves, and the node of a task that makes a file, one item after another.
use Rattle.std.proofs.Common.{ℕ, ◌≡◌, ◌∙◌, ◌<◌, ◌≤◌, true, false, List, [], ◌∷◌, ◌++◌, Result, Ok, Err, Some, append-nil, append_assoc, arith, inl, inr, length, map, refl, sym, ap, subst, length-append}
use Rattle.std.specs.Prelude.{◌==◌, OnOk}
use Rattle.std.proofs.lemmas.Bool.{both_ways, cases_Bool, cond-false, cond-true}
use Rattle.std.proofs.lemmas.List.{map_push}
use Rattle.std.proofs.lemmas.List.Elements.{All-push}
use Rattle.mk_name.specs.Names.{Name, has, same_name}
use Rattle.mk_name.specs.Reported.{Reported}
use Rattle.mk_task.specs.Lines as tasks
use Rattle.mk_task.specs.Tasks.{and_then}
use Rattle.mk_due.specs.Good.{AreBelow, IsNew}
use Rattle.mk_due.specs.Items.{DueItem, behind_items, behind_needs, due_node, items_of_line, leaf, leaves_of, names_of, new_names, order_item, task_item, with_item, with_items}
use Rattle.mk_due.specs.Lines.{Due}
use Rattle.mk_due.proofs.Adding.{item_is}
use Rattle.mk_due.proofs.Numbering.{below_more, new_push}

-- what follows from the answer of a call
pub on_ok : {T E P Q : Type 0} (r : Result T E) → (P → Q) → OnOk r P → OnOk r Q
on_ok (Ok x) f h = f h
on_ok (Err e) f h = h

pub some_there : (n : ℕ) → (n == 0) ≡ false → 0 < n
some_there ℕ.zero none = absurd (both_ways _ none refl)
some_there (ℕ.suc n) none = omega arith

-- what stays so when a leaf is added
pub record IsKept (earlier : List DueItem) (label : Name) (given : List DueItem) : Type 0 where
  pub new : IsNew given label
  pub more : length earlier ≤ length given

-- nothing more is done to the answer
pub and_then_ok : {X : Type 0} (r : Result X Reported) → and_then (λ x. Ok x) r ≡ r
and_then_ok (Ok x) = refl
and_then_ok (Err fault) = refl

-- the name of a leaf is there already, and is not
leaves_skip : (listing : List Name) (place : ℕ) (label : Name) (items : List DueItem) (x : Name) (needs : List Name) → has same_name (names_of items) x ≡ true
    → leaves_of listing place label items (x ∷ needs) ≡ leaves_of listing place label items needs
leaves_skip listing place label items x needs here = ap (map (leaf listing place label)) (cond-true (has same_name (names_of items) x) _ _ here)

leaves_take : (listing : List Name) (place : ℕ) (label : Name) (items : List DueItem) (x : Name) (needs : List Name) → has same_name (names_of items) x ≡ false
    → leaves_of listing place label items (x ∷ needs) ≡ leaf listing place label x ∷ map (leaf listing place label) (new_names (names_of items ++ x ∷ []) needs)
leaves_take listing place label items x needs absent = ap (map (leaf listing place label)) (cond-false (has same_name (names_of items) x) _ _ absent)

-- a leaf for one name
pub leaf_there : (listing : List Name) (place : ℕ) (label : Name) (items : List DueItem) (x : Name) → has same_name (names_of items) x ≡ true
    → with_items place items (leaves_of listing place label items (x ∷ [])) ≡ Ok items
leaf_there listing place label items x here = ap (with_items place items) (leaves_skip listing place label items x [] here)

pub leaf_new : (listing : List Name) (place : ℕ) (label : Name) (items : List DueItem) (x : Name) → has same_name (names_of items) x ≡ false
    → with_items place items (leaves_of listing place label items (x ∷ [])) ≡ with_item place items (leaf listing place label x)
leaf_new listing place label items x absent =
    ap (with_items place items) (leaves_take listing place label items x [] absent) ∙ and_then_ok (with_item place items (leaf listing place label x))

pub leaf_kept : (listing : List Name) (place : ℕ) (label : Name) (items : List DueItem) (x : Name) (given : List DueItem) → IsNew items label
    → with_item place items (leaf listing place label x) ≡ Ok given → IsKept items label given
leaf_kept listing place label items x given new is =
    let pushed = item_is place items (leaf listing place label x) given is in
    subst (IsKept items label) (sym pushed.items_are) (record {
      new = new_push items (leaf listing place label x) label refl new;
      more = omega (arith, length-append items (leaf listing place label x ∷ []));
    })

-- a leaf, and then the others
pub leaves_more : (listing : List Name) (place : ℕ) (label : Name) (items more : List DueItem) (x : Name) (needs : List Name)
    → with_items place items (leaves_of listing place label items (x ∷ [])) ≡ Ok more
    → with_items place items (leaves_of listing place label items (x ∷ needs)) ≡ with_items place more (leaves_of listing place label more needs)
leaves_more listing place label items more x needs is = elim (cases_Bool (has same_name (names_of items) x)) [
  | inl here ↦
      let e : ◌≡◌ {A = Result (List DueItem) Reported} (Ok items) (Ok more) = sym (leaf_there listing place label items x here) ∙ is in
      let same : items ≡ more = cc in
      ap (with_items place items) (leaves_skip listing place label items x needs here)
      ∙ ap (λ (all : List DueItem). with_items place all (leaves_of listing place label all needs)) same
  | inr absent ↦
      let put : with_item place items (leaf listing place label x) ≡ Ok more = sym (leaf_new listing place label items x absent) ∙ is in
      let names : names_of items ++ x ∷ [] ≡ names_of more =
      sym (map_push (λ (i : DueItem). i.node.name) items (leaf listing place label x)) ∙ ap names_of (sym (item_is place items (leaf listing place label x) more put).items_are) in
      let rest = map (leaf listing place label) (new_names (names_of items ++ x ∷ []) needs) in
      ap (with_items place items) (leaves_take listing place label items x needs absent)
      ∙ ap (and_then (λ all. with_items place all rest)) put
      ∙ ap (λ (names : List Name). with_items place more (map (leaf listing place label) (new_names names needs))) names
]

pub leaves_fault : (listing : List Name) (place : ℕ) (label : Name) (items : List DueItem) (x : Name) (needs : List Name) (t : Reported)
    → with_items place items (leaves_of listing place label items (x ∷ [])) ≡ Err t
    → with_items place items (leaves_of listing place label items (x ∷ needs)) ≡ Err t
leaves_fault listing place label items x needs t is = elim (cases_Bool (has same_name (names_of items) x)) [
  | inl here ↦ absurd (let e : ◌≡◌ {A = Result (List DueItem) Reported} (Ok items) (Err t) = sym (leaf_there listing place label items x here) ∙ is in cc)
  | inr absent ↦
      let put : with_item place items (leaf listing place label x) ≡ Err t = sym (leaf_new listing place label items x absent) ∙ is in
      ap (with_items place items) (leaves_take listing place label items x needs absent)
      ∙ ap (and_then (λ all. with_items place all (map (leaf listing place label) (new_names (names_of items ++ x ∷ []) needs)))) put
]

-- items and others behind them are both, one after the other
pub items_are : (place : ℕ) (items new all : List DueItem) → with_items place items new ≡ Ok all → all ≡ items ++ new
items_are place items [] all is = let e : ◌≡◌ {A = Result (List DueItem) Reported} (Ok items) (Ok all) = is in let same : items ≡ all = cc in sym same ∙ sym (append-nil items)
items_are place items (x ∷ new) all is = by (with_item place items x) refl is (λ given. items_are place given new all)
  where
    by : (r : Result (List DueItem) Reported) → with_item place items x ≡ r → and_then (λ given. with_items place given new) r ≡ Ok all
        → ((given : List DueItem) → with_items place given new ≡ Ok all → all ≡ given ++ new) → all ≡ items ++ x ∷ new
    by (Ok given) e f later = later given f ∙ ap (λ is. is ++ new) (item_is place items x given e).items_are ∙ append_assoc items (x ∷ []) new
    by (Err fault) e f later = absurd (let g : ◌≡◌ {A = Result (List DueItem) Reported} (Err fault) (Ok all) = f in cc)

pub items-append : (place : ℕ) (items some more : List DueItem)
    → with_items place items (some ++ more) ≡ and_then (λ all. with_items place all more) (with_items place items some)
items-append place items [] more = refl
items-append place items (x ∷ some) more = by (with_item place items x) (λ given. items-append place given some more)
  where
    by : (r : Result (List DueItem) Reported) → ((given : List DueItem) → with_items place given (some ++ more) ≡ and_then (λ all. with_items place all more) (with_items place given some))
        → and_then (λ all. with_items place all (some ++ more)) r ≡ and_then (λ all. with_items place all more) (and_then (λ all. with_items place all some) r)
    by (Ok given) later = later given
    by (Err fault) later = refl

-- the leaves of a line, and then its task
pub due_items : (listing : List Name) (place : ℕ) (line : tasks.TaskLine) (due : Due) (items given : List DueItem) (waits : List ℕ)
    → with_items place items (leaves_of listing place line.label items due.needs) ≡ Ok given
    → with_items place items (items_of_line listing place items line (Some due) waits) ≡ with_items place given (behind_items listing place line due waits given)
due_items listing place line due items given waits is =
    let leaves = leaves_of listing place line.label items due.needs in
    items-append place items leaves (behind_items listing place line due waits (items ++ leaves))
    ∙ ap (and_then (λ all. with_items place all (behind_items listing place line due waits (items ++ leaves)))) is
    ∙ ap (λ (all : List DueItem). with_items place given (behind_items listing place line due waits all)) (sym (items_are place items leaves given is))

pub due_fault : (listing : List Name) (place : ℕ) (line : tasks.TaskLine) (due : Due) (items : List DueItem) (waits : List ℕ) (t : Reported)
    → with_items place items (leaves_of listing place line.label items due.needs) ≡ Err t
    → with_items place items (items_of_line listing place items line (Some due) waits) ≡ Err t
due_fault listing place line due items waits t is =
    let leaves = leaves_of listing place line.label items due.needs in
    items-append place items leaves (behind_items listing place line due waits (items ++ leaves))
    ∙ ap (and_then (λ all. with_items place all (behind_items listing place line due waits (items ++ leaves)))) is

-- a task that waits for no others
pub due_alone : (listing : List Name) (place : ℕ) (line : tasks.TaskLine) (makes : Name) (items : List DueItem) (needs waits : List ℕ) → length waits ≡ 0
    → with_items place items (behind_needs listing place line makes (length items) needs waits) ≡ with_item place items (task_item place line (due_node listing makes needs))
due_alone listing place line makes items needs [] none = and_then_ok (with_item place items (task_item place line (due_node listing makes needs)))
due_alone listing place line makes items needs (n ∷ ns) none = absurd (omega arith)

-- one that waits for some
pub due_ordered : (listing : List Name) (place : ℕ) (line : tasks.TaskLine) (makes : Name) (items given : List DueItem) (needs waits : List ℕ) → 0 < length waits
    → with_item place items (order_item place line.label waits) ≡ Ok given
    → with_items place items (behind_needs listing place line makes (length items) needs waits)
    ≡ with_item place given (task_item place line (due_node listing makes (needs ++ length items ∷ [])))
due_ordered listing place line makes items given needs [] some is = absurd (omega arith)
due_ordered listing place line makes items given needs (n ∷ ns) some is =
    let task = task_item place line (due_node listing makes (needs ++ length items ∷ [])) in
    ap (and_then (λ all. with_items place all (task ∷ []))) is ∙ and_then_ok (with_item place given task)

pub order_fault : (listing : List Name) (place : ℕ) (line : tasks.TaskLine) (makes : Name) (items : List DueItem) (needs waits : List ℕ) (t : Reported) → 0 < length waits
    → with_item place items (order_item place line.label waits) ≡ Err t
    → with_items place items (behind_needs listing place line makes (length items) needs waits) ≡ Err t
order_fault listing place line makes items needs [] t some is = absurd (omega arith)
order_fault listing place line makes items needs (n ∷ ns) t some is =
    ap (and_then (λ all. with_items place all (task_item place line (due_node listing makes (needs ++ length items ∷ [])) ∷ []))) is

-- what is known behind its order node
pub record IsOrdered (earlier : List DueItem) (label : Name) (needs : List ℕ) (given : List DueItem) : Type 0 where
  pub new : IsNew given label
  pub below : AreBelow (length given) (needs ++ length earlier ∷ [])

pub order_kept : (place : ℕ) (label : Name) (items : List DueItem) (needs waits : List ℕ) (given : List DueItem) → IsNew items label → AreBelow (length items) needs
    → with_item place items (order_item place label waits) ≡ Ok given → IsOrdered items label needs given
order_kept place label items needs waits given new below is =
    let order = order_item place label waits in
    let pushed = item_is place items order given is in
    let longer : length items < length (items ++ order ∷ []) = omega (arith, length-append items (order ∷ [])) in
    subst (IsOrdered items label needs) (sym pushed.items_are) (record {
      new = new_push items order label refl new;
      below = All-push (λ n. n < length (items ++ order ∷ [])) needs (length items) (below_more (length items) (length (items ++ order ∷ [])) needs (omega (arith, longer)) below) longer;
    })
