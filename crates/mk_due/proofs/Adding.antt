-- One item behind others.
use Rattle.std.proofs.Common.{ℕ, ◌≡◌, ◌∙◌, ◌+◌, ◌^◌, ◌-◌, Bool, true, false, cond, List, [], ◌∷◌, ◌++◌, Option, None, Some, Result, Ok, Err, arith, get_or, length, refl, sym, ap, ap₂, subst, inl, inr, length-append}
use Rattle.std.specs.Prelude.{is_some, min, nat_eq, IsTrue}
use Rattle.std.specs.BTreeMap.{get}
use Rattle.std.specs.Cmp.Lexicographic.{slice_cmp}
use Rattle.std.specs.Ordering.{nat_cmp}
use Rattle.std.proofs.lemmas.Bool.{cases_lt, cond-true, cond-false}
use Rattle.std.proofs.lemmas.List.{get_or_append_left, length-map, map_push}
use Rattle.std.proofs.lemmas.List.Elements.{All-push}
use Rattle.std.proofs.lemmas.List.Sums.{sum_by_push}
use Rattle.mk_name.specs.Names.{IsDistinct, Name, has, kept, same_name}
use Rattle.mk_name.specs.Reported.{Reported}
use Rattle.mk_name.specs.declared.fault.Kind.{Kind}
use Rattle.mk_name.specs.declared.fault.Kind.TheVariants.{TaskTwice}
use Rattle.mk_name.proofs.Names.{distinct_push, kept_new, name_is_exact}
use Rattle.mk_jobs.specs.Numbered.{number_of}
use Rattle.mk_jobs.specs.Plan.{NeedsStandBefore, Node, edge_limit}
use Rattle.mk_jobs.proofs.Numberings.{number_has, number_none}
use Rattle.mk_foot.specs.Footprints.{path_limit}
use Rattle.mk_task.specs.Tasks.{limit_passed, reported}
use Rattle.mk_task.proofs.Adding.{few_of, same_side, sides}
use Rattle.mk_due.specs.declared.tally.Tally.{Tally}
use Rattle.mk_due.specs.Good.{AreBelow, AreGood, IsNamed, IsNew, IsTally}
use Rattle.mk_due.specs.Items.{DueItem, edge_count, is_task, names_of, nodes_of, path_count, task_number, unless_passed, with_item, within}
use Rattle.mk_due.proofs.Numbering.{has_below, task_push}

-- a name has a number where it is there
pub number_there : (names : List Name) (x : Name) → is_some (number_of names x) ≡ has same_name names x
number_there names x = by (number_of names x) refl
  where
    by : (o : Option ℕ) → number_of names x ≡ o → is_some o ≡ has same_name names x
    by None e = sym (number_none names x e)
    by (Some n) e = sym (number_has names x n e)

-- where there is no kind, there is none
pub none_from : (o : Option Kind) → ((kind : Kind) → o ≡ Some kind → ⊥) → None ≡ o
none_from None never = refl
none_from (Some kind) never = absurd (never kind refl)

-- whether one of the names is that of an item
pub there_is : (names : List Name) (items : List DueItem) (x y : Name) (o : Option ℕ) (b : Bool) → names ≡ names_of items → x ≡ y → o ≡ number_of names x → b ≡ is_some o
    → b ≡ has same_name (names_of items) y
there_is names items x y o b all same found is = is ∙ ap is_some found ∙ number_there names x ∙ ap₂ (has same_name) all same

-- a name that is there already is the line's fault
pub item_twice : (place : ℕ) (items : List DueItem) (item : DueItem) → has same_name (names_of items) item.node.name ≡ true
    → with_item place items item ≡ Err (reported TaskTwice place (item.node.name ∷ []))
item_twice place items item here = cond-true (has same_name (names_of items) item.node.name) _ _ here

-- a new one depends on the limits
pub item_new : (place : ℕ) (items : List DueItem) (item : DueItem) → has same_name (names_of items) item.node.name ≡ false
    → with_item place items item ≡ within place (items ++ item ∷ [])
item_new place items item new = cond-false (has same_name (names_of items) item.node.name) _ _ new

-- the counts of items and of one more, of which none passes the greatest number
pub record AreCounts (earlier : List DueItem) (item : DueItem) (edges paths : ℕ) : Type 0 where
  pub edges_are : edges ≡ min (edge_count earlier + length item.node.prerequisites) (2 ^ 64 - 1)
  pub paths_are : paths ≡ min (path_count earlier + (length item.reads + length item.writes)) (2 ^ 64 - 1)

edges_push : (earlier : List DueItem) (item : DueItem) → edge_count (earlier ++ item ∷ []) ≡ edge_count earlier + length item.node.prerequisites
edges_push earlier item = sum_by_push (λ (i : DueItem). length i.node.prerequisites) earlier item

paths_push : (earlier : List DueItem) (item : DueItem) → path_count (earlier ++ item ∷ []) ≡ path_count earlier + (length item.reads + length item.writes)
paths_push earlier item = sum_by_push (λ (i : DueItem). length i.reads + length i.writes) earlier item

length_push : (earlier : List DueItem) (item : DueItem) → length (earlier ++ item ∷ []) ≡ length earlier + 1
length_push earlier item = length-append earlier (item ∷ [])

-- they pass the limits that all of them pass
passed_same : (earlier : List DueItem) (item : DueItem) (edges paths : ℕ) → AreCounts earlier item edges paths
    → limit_passed (length earlier + 1) edges paths
    ≡ limit_passed (length (earlier ++ item ∷ [])) (edge_count (earlier ++ item ∷ [])) (path_count (earlier ++ item ∷ []))
passed_same earlier item edges paths counts =
    ap (λ n. limit_passed n edges paths) (sym (length_push earlier item))
    ∙ sides (length (earlier ++ item ∷ [])) edges paths _ _
    (same_side edge_limit edges (edge_count (earlier ++ item ∷ []))
    (λ more. omega (arith, more, counts.edges_are, edges_push earlier item))
    (λ less. omega (arith, less, counts.edges_are, edges_push earlier item)))
    (same_side path_limit paths (path_count (earlier ++ item ∷ []))
    (λ more. omega (arith, more, counts.paths_are, paths_push earlier item))
    (λ less. omega (arith, less, counts.paths_are, paths_push earlier item)))

-- the answer where a limit is passed, and where none is
pub within_passed : (place : ℕ) (earlier : List DueItem) (item : DueItem) (edges paths : ℕ) (o : Option Kind) → AreCounts earlier item edges paths
    → o ≡ limit_passed (length earlier + 1) edges paths → within place (earlier ++ item ∷ []) ≡ unless_passed place (earlier ++ item ∷ []) o
within_passed place earlier item edges paths o counts is =
    ap (unless_passed place (earlier ++ item ∷ [])) (sym (is ∙ passed_same earlier item edges paths counts))

get_last : {X : Type 0} (xs : List X) (x d : X) → get_or (xs ++ x ∷ []) (length xs) d ≡ x
get_last [] x d = refl
get_last (y ∷ xs) x d = get_last xs x d

-- each stands behind what it needs, also one more
behind_push : (nodes : List Node) (node : Node) → NeedsStandBefore nodes → AreBelow (length nodes) node.prerequisites → NeedsStandBefore (nodes ++ node ∷ [])
behind_push nodes node behind below i p d inside here = elim (cases_lt i (length nodes)) [
  | inl less ↦ behind i p d less (subst (λ (n : Node). IsTrue (has nat_eq n.prerequisites p)) (get_or_append_left nodes (node ∷ []) d i less) here)
  | inr past ↦
      let last : length nodes ≡ i = omega (arith, inside, past, length-append nodes (node ∷ [])) in
      let there : IsTrue (has nat_eq node.prerequisites p) =
      subst (λ (n : Node). IsTrue (has nat_eq n.prerequisites p)) (ap (λ k. get_or (nodes ++ node ∷ []) k d) (sym last) ∙ get_last nodes node d) here in
      omega (arith, last, has_below (length nodes) node.prerequisites p below there)
]

-- good items and one more, where no limit is passed
pub good_push : (items : List DueItem) (item : DueItem) (edges paths : ℕ) → AreGood items → IsNamed item → has same_name (names_of items) item.node.name ≡ false
    → AreBelow (length items) item.node.prerequisites → AreCounts items item edges paths → None ≡ limit_passed (length items + 1) edges paths
    → AreGood (items ++ item ∷ [])
good_push items item edges paths good named new below counts none =
    let few = few_of (length items + 1) edges paths (sym none) in
    record {
      few = omega (arith, few.few, length_push items item);
      few_edges = omega (arith, few.few_edges, counts.edges_are, edges_push items item);
      distinct =
          subst (IsDistinct same_name) (sym (map_push (λ (i : DueItem). i.node.name) items item))
          (distinct_push same_name name_is_exact (names_of items) item.node.name good.distinct new);
      behind =
          subst NeedsStandBefore (sym (map_push (λ (i : DueItem). i.node) items item))
          (behind_push (nodes_of items) item.node good.behind
          (subst (λ n. AreBelow n item.node.prerequisites) (sym (length-map items (λ (i : DueItem). i.node))) below));
      named = All-push IsNamed items item good.named named;
    }

-- what is kept beside one item more
pub record IsOneMore (old : Tally) (item : DueItem) (new : Tally) : Type 0 where
  pub items_are : new.items.items ≡ old.items.items ++ item ∷ []
  pub counts : AreCounts old.items.items item new.edges new.paths
  pub names_are : new.names ≡ kept same_name old.names (item.node.name ∷ [])
  pub tasks_are : (label : Name) → get (slice_cmp nat_cmp) new.tasks label ≡ cond (is_task label item) (Some (length old.items.items)) (get (slice_cmp nat_cmp) old.tasks label)

pub tally_push : (old : Tally) (item : DueItem) (new : Tally) → IsTally old → IsNamed item
    → has same_name old.names item.node.name ≡ false → IsNew old.items.items item.label → AreBelow (length old.items.items) item.node.prerequisites
    → None ≡ limit_passed (length old.items.items + 1) new.edges new.paths → IsOneMore old item new → IsTally new
tally_push old item new are named absent label below none more =
    let items = old.items.items in
    let few = few_of (length items + 1) new.edges new.paths (sym none) in
    let there : has same_name (names_of items) item.node.name ≡ false = subst (λ ns. has same_name ns item.node.name ≡ false) are.names_are absent in
    let good : AreGood (items ++ item ∷ []) = good_push items item new.edges new.paths are.good named there below more.counts none in
    record {
      good = subst AreGood (sym more.items_are) good;
      names_are =
          more.names_are ∙ kept_new same_name name_is_exact old.names item.node.name [] absent
          ∙ ap (λ ns. ns ++ item.node.name ∷ []) are.names_are ∙ sym (map_push (λ (i : DueItem). i.node.name) items item)
          ∙ ap names_of (sym more.items_are);
      tasks_are = λ l.
          more.tasks_are l ∙ ap (cond (is_task l item) (Some (length items))) (are.tasks_are l) ∙ sym (task_push items item l label)
          ∙ ap (λ is. task_number is l) (sym more.items_are);
      edges_are =
          let e : new.edges ≡ edge_count (items ++ item ∷ []) = omega (arith, few.few_edges, more.counts.edges_are, edges_push items item) in
          e ∙ ap edge_count (sym more.items_are);
      paths_are =
          let e : new.paths ≡ path_count (items ++ item ∷ []) = omega (arith, few.few_paths, more.counts.paths_are, paths_push items item) in
          e ∙ ap path_count (sym more.items_are);
    }

-- what items are that an item was put behind
pub record IsPushed (earlier : List DueItem) (item : DueItem) (given : List DueItem) : Type 0 where
  pub items_are : given ≡ earlier ++ item ∷ []
  pub absent : has same_name (names_of earlier) item.node.name ≡ false

pub item_is : (place : ℕ) (earlier : List DueItem) (item : DueItem) (given : List DueItem) → with_item place earlier item ≡ Ok given → IsPushed earlier item given
item_is place earlier item given is = by (has same_name (names_of earlier) item.node.name) refl is
  where
    limits : (o : Option Kind) → unless_passed place (earlier ++ item ∷ []) o ≡ Ok given → given ≡ earlier ++ item ∷ []
    limits None e = (let g : ◌≡◌ {A = Result (List DueItem) Reported} (Ok (earlier ++ item ∷ [])) (Ok given) = e in cc)
    limits (Some kind) e = absurd (let g : ◌≡◌ {A = Result (List DueItem) Reported} (Err (reported kind place [])) (Ok given) = e in cc)

    by : (b : Bool) → has same_name (names_of earlier) item.node.name ≡ b
        → cond b (Err (reported TaskTwice place (item.node.name ∷ []))) (within place (earlier ++ item ∷ [])) ≡ Ok given → IsPushed earlier item given
    by true e f = absurd (let g : ◌≡◌ {A = Result (List DueItem) Reported} (Err (reported TaskTwice place (item.node.name ∷ []))) (Ok given) = f in cc)
    by false e f = record { items_are = limits (limit_passed (length (earlier ++ item ∷ [])) (edge_count (earlier ++ item ∷ [])) (path_count (earlier ++ item ∷ []))) f; absent = e }
