-- Which items write the name of another node.
use Rattle.std.proofs.Common.{ℕ, ◌≡◌, ◌∙◌, not, ◌&&◌, Bool, true, false, List, [], ◌∷◌, ◌++◌, All, Option, None, Some, Ok, Err, Vec, append_assoc, map, refl, sym, ap, ap₂, subst, inl, inr}
use Rattle.std.specs.Prelude.{find, slice_get}
use Rattle.std.specs.Global.{Global}
use Rattle.std.proofs.lemmas.List.{map_push}
use Rattle.std.specs.List.{cons_option, filter_map}
use Rattle.std.specs.Option.{option_map, option_map_or}
use Rattle.std.proofs.lemmas.Bool.{both_ways, cases_Bool, cond-true, cond-false, or_cases}
use Rattle.std.proofs.lemmas.List.Elements.{All-cons, All-nil}
use Rattle.mk_name.specs.Names.{Name, has, same_name}
use Rattle.mk_name.specs.Reported.{Reported}
use Rattle.mk_name.proofs.Names.{name_is_exact}
use Rattle.mk_path.specs.declared.path.Path.{Path}
use Rattle.mk_path.specs.Paths.{covered}
use Rattle.mk_path.specs.Taken.{is_taken}
use Rattle.mk_jobs.specs.Recipes.{is_live_node}
use Rattle.mk_task.specs.Tasks.{reported}
use Rattle.mk_name.specs.declared.fault.Kind.TheVariants.{WritesTarget}
use Rattle.mk_due.specs.Items.{DueItem}
use Rattle.mk_due.specs.JobsOf.{first_fault, item_fault, jobs_of, made_beside, reads_of, writes_of}

-- no path takes a name
none_taken : (root : List ℕ) (own : Name) (names : List Name) → find (is_taken root [] own) names ≡ None
none_taken root own [] = refl
none_taken root own (x ∷ names) = cond-false (is_taken root [] own x) (Some x) _ (and_false (not (same_name own x))) ∙ none_taken root own names
  where
    and_false : (b : Bool) → (b && false) ≡ false
    and_false true = refl
    and_false false = refl

-- an item whose recipe can't run reads and writes nothing, and has no fault
pub record IsIdle (root : List ℕ) (names : List Name) (item : DueItem) : Type 0 where
  pub fault : item_fault root names item ≡ None
  pub reads : reads_of item ≡ []
  pub writes : writes_of item ≡ []

pub item_idle : (root : List ℕ) (names : List Name) (item : DueItem) → is_live_node item.node ≡ false → IsIdle root names item
item_idle root names item idle =
    let writes : writes_of item ≡ [] = cond-false (is_live_node item.node) _ _ idle in
    record {
      fault =
          ap (λ ws. option_map (λ (x : Name). reported WritesTarget item.place (item.label ∷ x ∷ [])) (find (is_taken root ws item.node.name) names)) writes
          ∙ ap (option_map (λ (x : Name). reported WritesTarget item.place (item.label ∷ x ∷ []))) (none_taken root item.node.name names);
      reads = cond-false (is_live_node item.node) _ _ idle;
      writes = writes;
    }

-- the first fault of an item and others
pub first_here : (root : List ℕ) (names : List Name) (item : DueItem) (rest : List DueItem) (t : Reported) → item_fault root names item ≡ Some t
    → first_fault root names (item ∷ rest) ≡ Some t
first_here root names item rest t is = ap (λ o. slice_get (cons_option o (filter_map (item_fault root names) rest)) 0) is

pub first_later : (root : List ℕ) (names : List Name) (item : DueItem) (rest : List DueItem) → item_fault root names item ≡ None
    → first_fault root names (item ∷ rest) ≡ first_fault root names rest
first_later root names item rest is = ap (λ o. slice_get (cons_option o (filter_map (item_fault root names) rest)) 0) is

-- it is the answer
pub made_fault : (root : List ℕ) (names : List Name) (items : List DueItem) (t : Reported) → first_fault root names items ≡ Some t
    → made_beside root names items ≡ Err t
made_fault root names items t is = ap (λ o. option_map_or (λ fault. Err fault) o (Ok (jobs_of root items))) is

pub made_good : (root : List ℕ) (names : List Name) (items : List DueItem) → first_fault root names items ≡ None
    → made_beside root names items ≡ Ok (jobs_of root items)
made_good root names items is = ap (λ o. option_map_or (λ fault. Err fault) o (Ok (jobs_of root items))) is

-- where none is the first, there is none
abbrev pub IsFree : List ℕ → List Name → DueItem → Type 0
IsFree root names item = item_fault root names item ≡ None

on_free : (root : List ℕ) (names : List Name) (item : DueItem) (items : List DueItem) → (first_fault root names items ≡ None → All (IsFree root names) items)
    → (o : Option Reported) → item_fault root names item ≡ o → first_fault root names (item ∷ items) ≡ None → All (IsFree root names) (item ∷ items)
on_free root names item items later None e none = All-cons (IsFree root names) item items e (later (sym (first_later root names item items e) ∙ none))
on_free root names item items later (Some t) e none = absurd (let f : Some t ≡ None = sym (first_here root names item items t e) ∙ none in cc)

pub all_free : (root : List ℕ) (names : List Name) (items : List DueItem) → first_fault root names items ≡ None → All (IsFree root names) items
all_free root names [] none = All-nil _
all_free root names (item ∷ items) none = on_free root names item items (all_free root names items) (item_fault root names item) refl none

-- of names none of which is taken, one that stands there is not taken
not_taken : (root : List ℕ) (own : Name) (writes : List Path) (names : List Name) (x : Name) → find (is_taken root writes own) names ≡ None
    → has same_name names x ≡ true → is_taken root writes own x ≡ false
not_taken root own writes [] x none there = absurd (both_ways _ refl there)
not_taken root own writes (y ∷ ys) x none there =
    elim (cases_Bool (is_taken root writes own y)) [
      | inl taken ↦ absurd (let e : Some y ≡ None = sym (cond-true (is_taken root writes own y) (Some y) _ taken) ∙ none in cc)
      | inr free ↦ elim (or_cases (same_name y x) _ there) [
        | inl same ↦ subst (λ (z : Name). is_taken root writes own z ≡ false) (name_is_exact.equal y x same) free
        | inr later ↦ not_taken root own writes ys x (sym (cond-false (is_taken root writes own y) (Some y) _ free) ∙ none) later
      ]
    ]

option_none : {A B : Type 0} (f : A → B) (o : Option A) → option_map f o ≡ None → o ≡ None
option_none f None e = refl
option_none f (Some a) e = absurd (let g : Some (f a) ≡ None = e in cc)

-- a name that is written and not taken is the own one
same_own : (root : List ℕ) (own : Name) (writes : List Path) (x : Name) → covered root writes x ≡ true → is_taken root writes own x ≡ false → own ≡ x
same_own root own writes x written free =
    elim (cases_Bool (same_name own x)) [
      | inl same ↦ name_is_exact.equal own x same
      | inr other ↦ absurd (both_ways _ free (ap₂ (λ a b. not a && b) other written))
    ]

-- a free item writes no name of these but its own
pub free_own : (root : List ℕ) (names : List Name) (item : DueItem) (x : Name) → IsFree root names item → has same_name names x ≡ true
    → covered root (writes_of item) x ≡ true → item.node.name ≡ x
free_own root names item x free there written =
    same_own root item.node.name (writes_of item) x written
    (not_taken root item.node.name (writes_of item) names x
    (option_none (λ (y : Name). reported WritesTarget item.place (item.label ∷ y ∷ [])) (find (is_taken root (writes_of item) item.node.name) names) free) there)

-- what is done, with what is left, after one more
pub pushed_left : {A B : Type 0} (f : A → B) (done new : List B) (left rest : List A) (x : A) (y : B) (all : List B) → left ≡ x ∷ rest → y ≡ f x → new ≡ done ++ y ∷ []
    → done ++ map f left ≡ all → new ++ map f rest ≡ all
pushed_left f done new left rest x y all here is put before =
    ap (λ ys. ys ++ map f rest) (put ∙ ap (λ z. done ++ z ∷ []) is) ∙ append_assoc done (f x ∷ []) (map f rest)
    ∙ ap (λ xs. done ++ map f xs) (sym here) ∙ before

-- a row behind the others
pub row_put : (rows new : List (Vec Path Global)) (v : Vec Path Global) → new ≡ rows ++ v ∷ []
    → map (λ (r : Vec Path Global). r.items) new ≡ map (λ (r : Vec Path Global). r.items) rows ++ v.items ∷ []
row_put rows new v put = ap (map (λ (r : Vec Path Global). r.items)) put ∙ map_push (λ (r : Vec Path Global). r.items) rows v
