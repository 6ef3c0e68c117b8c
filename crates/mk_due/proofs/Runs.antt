-- When tasks run that say when they are due.
use Rattle.std.proofs.Common.{ℕ, ◌≡◌, ◌∙◌, ◌<◌, ◌+◌, ◌⊎◌, Bool, true, false, cond, List, [], ◌∷◌, ◌++◌, All, Option, None, Some, Result, Ok, Err, Contains, append_assoc, append-nil, arith, get_or, length, map, refl, sym, ap, subst, inl, inr, length-append, lt_trans}
use Rattle.std.specs.Prelude.{◌||◌, ◌↔◌, fold, is_none, is_some, nat_eq, unwrap_or}
use Rattle.std.specs.BTreeSet.{insert_key}
use Rattle.std.specs.Cmp.{unsigned_ties}
use Rattle.std.specs.List.{cons_option, filter_map}
use Rattle.std.specs.Option.{option_map_or}
use Rattle.std.specs.Ordering.{is_eq, match_ordering, nat_cmp}
use Rattle.std.specs.declared.cmp.Ordering.{Ordering}
use Rattle.std.specs.declared.cmp.Ordering.TheVariants.{Less, Equal, Greater}
use Rattle.std.proofs.lemmas.Bool.{both_ways, or_cases, or_left, or_right}
use Rattle.std.proofs.lemmas.List.{length-map}
use Rattle.std.proofs.lemmas.List.Elements.{All-append, All-cons, All-head, All-nil, All-tail}
use Rattle.std.proofs.lemmas.Option.{unwrap_or-slice_get}
use Rattle.mk_name.specs.Names.{Name, has, same_name}
use Rattle.mk_name.specs.Reported.{Reported}
use Rattle.mk_name.proofs.Names as lists
use Rattle.mk_name.proofs.Names.{name_is_exact, nat_is_exact}
use Rattle.mk_name.specs.declared.fault.Kind.TheVariants.{BadTask, NotAwaited, TaskTwice}
use Rattle.mk_text.specs.LineFeed.{place_behind}
use Rattle.mk_text.specs.Listing as listings
use Rattle.mk_text.specs.Listing.{lines}
use Rattle.mk_jobs.specs.Jobs.{Jobs, IsPrerequisite, IsValid, has_commands, has_recipe, is_phony, may_write, name_of, node_at, node_count, prerequisites_of}
use Rattle.mk_jobs.specs.Numbered.{name_at, number_of}
use Rattle.mk_jobs.specs.Plan.{Node, nobody}
use Rattle.mk_jobs.proofs.Numberings.{number_some}
use Rattle.mk_foot.specs.Json.{is_blank}
use Rattle.mk_sched.specs.Stores.{File, Store, outdates}
use Rattle.mk_sched.specs.Events.{Event, history, is_started, phase}
use Rattle.mk_sched.specs.Runs.{IsComplete, IsRun}
use Rattle.mk_sched.proofs.Basics.{passed_begun, split, split_option}
use Rattle.mk_sched.proofs.OneRun.{decided, unstarted_empty, wrote}
use Rattle.mk_missing.specs.Doings.{has_write}
use Rattle.mk_missing.specs.Running.{HasReason, stale, woken}
use Rattle.mk_missing.proofs.Reasons.{runs_by_reason}
use Rattle.mk_missing.proofs.Waking.{absent_if, absent_stale, last_written, one_passes, phony_stale, stale_by}
use Rattle.mk_task.specs.JobsOf.{own_name}
use Rattle.mk_task.specs.Lines as tasks
use Rattle.mk_task.specs.Started.{HasNoOwnNames}
use Rattle.mk_task.specs.Tasks.{and_then, reported}
use Rattle.mk_due.specs.Items.{AreItems, DueItem, always_node, behind_needs, due_node, early_need, items_of_line, leaf, leaves_of, more, names_of, new_names, nodes_of, none, numbers_of, order_item, order_name, others, task_item, task_number, waits_among, with_items, with_line, with_task, with_text}
use Rattle.mk_due.specs.JobsOf.{AreJobsIn, first_fault, jobs_of}
use Rattle.mk_due.specs.Lines.{Due, DueLine, line_of}
use Rattle.mk_due.specs.Running.{DueTasksRun, IsDue, LetsRest, RunsWhenDue, absent, always, older, task_name, made as is_made}
use Rattle.mk_due.proofs.Adding.{number_there}
use Rattle.mk_due.proofs.Leaves.{items_are}
use Rattle.mk_due.proofs.Numbering.{found_all}

-- a number put among others is there, and so are the others
insert_there : (ks : List ℕ) (k : ℕ) → has nat_eq (insert_key nat_cmp ks k) k ≡ true
insert_there [] k = or_left (nat_eq k k) false (nat_is_exact.itself k)
insert_there (x ∷ xs) k = by (nat_cmp k x) refl (insert_there xs k)
  where
    by : (o : Ordering) → nat_cmp k x ≡ o → has nat_eq (insert_key nat_cmp xs k) k ≡ true
        → has nat_eq (match_ordering o (k ∷ x ∷ xs) (x ∷ xs) (x ∷ insert_key nat_cmp xs k)) k ≡ true
    by Less e later = or_left (nat_eq k k) _ (nat_is_exact.itself k)
    by Equal e later =
        let same : k ≡ x = nat_is_exact.equal k x (unsigned_ties k x ∙ ap is_eq e) in
        or_left (nat_eq x k) _ (subst (λ y. nat_eq y k ≡ true) same (nat_is_exact.itself k))
    by Greater e later = or_right (nat_eq x k) _ later

insert_keeps : (ks : List ℕ) (k n : ℕ) → has nat_eq ks n ≡ true → has nat_eq (insert_key nat_cmp ks k) n ≡ true
insert_keeps [] k n here = or_right (nat_eq k n) false here
insert_keeps (x ∷ xs) k n here = by (nat_cmp k x) (insert_keeps xs k n)
  where
    by : (o : Ordering) → (has nat_eq xs n ≡ true → has nat_eq (insert_key nat_cmp xs k) n ≡ true)
        → has nat_eq (match_ordering o (k ∷ x ∷ xs) (x ∷ xs) (x ∷ insert_key nat_cmp xs k)) n ≡ true
    by Less later = or_right (nat_eq k n) _ here
    by Equal later = here
    by Greater later = elim (or_cases (nat_eq x n) (has nat_eq xs n) here) [
      | inl same ↦ or_left (nat_eq x n) _ same
      | inr further ↦ or_right (nat_eq x n) _ (later further)
    ]

-- so is each number that is found
found_keeps : (f : Name → Option ℕ) (some : List Name) (numbers : List ℕ) (n : ℕ) → has nat_eq numbers n ≡ true
    → has nat_eq (fold (insert_key nat_cmp) numbers (filter_map f some)) n ≡ true
found_keeps f [] numbers n here = here
found_keeps f (x ∷ some) numbers n here = by (f x) (λ more. found_keeps f some more n)
  where
    by : (o : Option ℕ) → ((more : List ℕ) → has nat_eq more n ≡ true → has nat_eq (fold (insert_key nat_cmp) more (filter_map f some)) n ≡ true)
        → has nat_eq (fold (insert_key nat_cmp) numbers (cons_option o (filter_map f some))) n ≡ true
    by None later = later numbers here
    by (Some k) later = later (insert_key nat_cmp numbers k) (insert_keeps numbers k n here)

found_there : (f : Name → Option ℕ) (some : List Name) (numbers : List ℕ) (y : Name) (n : ℕ) → has same_name some y ≡ true → f y ≡ Some n
    → has nat_eq (fold (insert_key nat_cmp) numbers (filter_map f some)) n ≡ true
found_there f [] numbers y n here is = absurd (both_ways _ refl here)
found_there f (x ∷ some) numbers y n here is = elim (or_cases (same_name x y) (has same_name some y) here) [
  | inl same ↦
      let e : f x ≡ Some n = ap f (name_is_exact.equal x y same) ∙ is in
      subst (λ o. has nat_eq (fold (insert_key nat_cmp) numbers (cons_option o (filter_map f some))) n ≡ true) (sym e)
      (found_keeps f some (insert_key nat_cmp numbers n) n (insert_there numbers n))
  | inr later ↦ by (f x) (λ more. found_there f some more y n later is)
]
  where
    by : (o : Option ℕ) → ((more : List ℕ) → has nat_eq (fold (insert_key nat_cmp) more (filter_map f some)) n ≡ true)
        → has nat_eq (fold (insert_key nat_cmp) numbers (cons_option o (filter_map f some))) n ≡ true
    by None later = later numbers
    by (Some k) later = later (insert_key nat_cmp numbers k)

-- what holds of all numbers holds of one that stands among them
all_has : (P : ℕ → Type 0) (xs : List ℕ) (n : ℕ) → All P xs → has nat_eq xs n ≡ true → P n
all_has P [] n all here = absurd (both_ways _ refl here)
all_has P (x ∷ xs) n all here = elim (or_cases (nat_eq x n) (has nat_eq xs n) here) [
  | inl same ↦ subst P (nat_is_exact.equal x n same) (All-head P x xs all)
  | inr later ↦ all_has P xs n (All-tail P x xs all) later
]

contains_has : (xs : List ℕ) (x : ℕ) → Contains xs x → has nat_eq xs x ≡ true
contains_has [] x (k, below, is) = absurd (omega (arith, below))
contains_has (y ∷ ys) x (ℕ.zero, below, is) = or_left (nat_eq y x) _ (subst (λ z. nat_eq y z ≡ true) is (nat_is_exact.itself y))
contains_has (y ∷ ys) x (ℕ.suc k, below, is) = or_right (nat_eq y x) _ (contains_has ys x (k, omega (arith, below), is))

has_contains : (xs : List ℕ) (x : ℕ) → has nat_eq xs x ≡ true → Contains xs x
has_contains [] x here = absurd (both_ways _ refl here)
has_contains (y ∷ ys) x here = elim (or_cases (nat_eq y x) (has nat_eq ys x) here) [
  | inl same ↦ (0, omega arith, nat_is_exact.equal y x same)
  | inr later ↦ let rest = has_contains ys x later in (ℕ.suc rest.0, omega (arith, rest.1), rest.2)
]

-- the node of a number, among items
abbrev node_in : List DueItem → ℕ → Node
node_in items p = get_or (nodes_of items) p nobody

in_left : (front later : List DueItem) (p : ℕ) → p < length front → node_in (front ++ later) p ≡ node_in front p
in_left [] later p inside = absurd (omega (arith, inside))
in_left (x ∷ front) later ℕ.zero inside = refl
in_left (x ∷ front) later (ℕ.suc p) inside = in_left front later p (omega (arith, inside))

in_here : (front later : List DueItem) (item : DueItem) → node_in (front ++ item ∷ later) (length front) ≡ item.node
in_here [] later item = refl
in_here (x ∷ front) later item = in_here front later item

name_in : (items : List DueItem) (p : ℕ) → (node_in items p).name ≡ name_at (names_of items) p
name_in [] p = refl
name_in (x ∷ items) ℕ.zero = refl
name_in (x ∷ items) (ℕ.suc p) = name_in items p

-- an order node of a label: it has no recipe, and is not phony
record IsOrderNode (label : Name) (node : Node) : Type 0 where
  pub name_is : node.name ≡ order_name label
  pub idle : has_commands node.maker ≡ false
  pub plain : node.phony ≡ false

-- these numbers are those of the files that a task needs, and of its order node
record AreNeeds (front : List DueItem) (due : Due) (label : Name) (numbers : List ℕ) : Type 0 where
  pub each : (x : Name) → has same_name due.needs x ≡ true → (p : ℕ) × (has nat_eq numbers p ≡ true) × (p < length front) × ((node_in front p).name ≡ x)
  pub only : (p : ℕ) → has nat_eq numbers p ≡ true
      → (p < length front) × ((has same_name due.needs (node_in front p).name ≡ true) ⊎ IsOrderNode label (node_in front p))

some_is : (o : Option ℕ) → is_some o ≡ true → (n : ℕ) × (o ≡ Some n)
some_is None some = absurd (both_ways _ refl some)
some_is (Some n) some = (n, refl)

needs_known : (known : List DueItem) (due : Due) (label : Name) → ((x : Name) → has same_name due.needs x ≡ true → has same_name (names_of known) x ≡ true)
    → AreNeeds known due label (numbers_of (names_of known) due.needs)
needs_known known due label there =
    let names = names_of known in
    let long : length names ≡ length known = length-map known (λ (i : DueItem). i.node.name) in
    record {
      each = λ x needed.
          let found = some_is (number_of names x) (number_there names x ∙ there x needed) in
          let is = number_some names x found.0 found.1 in
          (found.0, found_there (number_of names) due.needs [] x found.0 needed found.1, omega (arith, is.0, long), name_in known found.0 ∙ is.1);
      only = λ p among.
          let P : ℕ → Type 0 = λ p. (p < length known) × ((has same_name due.needs (node_in known p).name ≡ true) ⊎ IsOrderNode label (node_in known p)) in
          all_has P (numbers_of names due.needs) p
          (found_all (number_of names) P due.needs [] (λ x n needed found.
          let is = number_some names x n found in
          (omega (arith, is.0, long), inl (subst (λ (y : Name). has same_name due.needs y ≡ true) (sym (name_in known n ∙ is.1)) needed))) (All-nil _))
          among;
    }

needs_ordered : (known : List DueItem) (due : Due) (label : Name) (place : ℕ) (waits numbers : List ℕ) → AreNeeds known due label numbers
    → AreNeeds (known ++ order_item place label waits ∷ []) due label (numbers ++ length known ∷ [])
needs_ordered known due label place waits numbers needs =
    let order = order_item place label waits in
    let longer = length-append known (order ∷ []) in
    record {
      each = λ x needed.
          let at = needs.each x needed in (
            at.0,
            lists.in_left nat_eq nat_is_exact numbers (length known ∷ []) at.0 at.1,
            omega (arith, at.2, longer),
            ap (λ (node : Node). node.name) (in_left known (order ∷ []) at.0 at.2) ∙ at.3,
          );
      only = λ p among. elim (lists.in_push_cases nat_eq nat_is_exact numbers (length known) p among) [
        | inl old ↦
            let at = needs.only p old in (
              omega (arith, at.0, longer),
              subst (λ (node : Node). (has same_name due.needs node.name ≡ true) ⊎ IsOrderNode label node) (sym (in_left known (order ∷ []) p at.0)) at.1,
            )
        | inr last ↦
            let is : node_in (known ++ order ∷ []) p ≡ order.node = ap (node_in (known ++ order ∷ [])) (sym last) ∙ in_here known [] order in (
              omega (arith, last, longer),
              inr (subst (IsOrderNode label) (sym is) (record { name_is = refl; idle = refl; plain = refl })),
            )
      ];
    }

-- this is the node of a line's task, behind these items
record IsTaskOf (front : List DueItem) (line : DueLine) (node : Node) : Type 0 where
  pub name_is : node.name ≡ task_name line
  pub recipe : has_commands node.maker ≡ true
  pub phony_is : node.phony ≡ is_none line.due
  pub needs : (due : Due) → line.due ≡ Some due → AreNeeds front due line.task.label node.prerequisites

record HasTask (line : DueLine) (items : List DueItem) : Type 0 where
  pub front : List DueItem
  pub item : DueItem
  pub later : List DueItem
  pub items_are : items ≡ front ++ item ∷ later
  pub is_task : IsTaskOf front line item.node

-- among the names of items and new ones are all that are needed
new_there : (names some : List Name) (x : Name) → has same_name some x ≡ true → has same_name (names ++ new_names names some) x ≡ true
new_there names [] x needed = absurd (both_ways _ refl needed)
new_there names (y ∷ some) x needed = by (has same_name names y) refl (λ more. new_there more some x)
  where
    by : (b : Bool) → has same_name names y ≡ b → ((more : List Name) → has same_name some x ≡ true → has same_name (more ++ new_names more some) x ≡ true)
        → has same_name (names ++ cond b (new_names names some) (y ∷ new_names (names ++ y ∷ []) some)) x ≡ true
    by true here later = elim (or_cases (same_name y x) (has same_name some x) needed) [
      | inl same ↦ lists.in_left same_name name_is_exact names (new_names names some) x (subst (λ (z : Name). has same_name names z ≡ true) (name_is_exact.equal y x same) here)
      | inr further ↦ later names further
    ]
    by false fresh later = subst (λ (all : List Name). has same_name all x ≡ true) (append_assoc names (y ∷ []) (new_names (names ++ y ∷ []) some))
        (elim (or_cases (same_name y x) (has same_name some x) needed) [
          | inl same ↦ lists.in_left same_name name_is_exact (names ++ y ∷ []) (new_names (names ++ y ∷ []) some) x
              (subst (λ (z : Name). has same_name (names ++ y ∷ []) z ≡ true) (name_is_exact.equal y x same) (lists.in_push same_name name_is_exact names y))
          | inr further ↦ later (names ++ y ∷ []) further
        ])

leaf_names : (listing : List Name) (place : ℕ) (label : Name) (items : List DueItem) (xs : List Name) → names_of (items ++ map (leaf listing place label) xs) ≡ names_of items ++ xs
leaf_names listing place label [] [] = refl
leaf_names listing place label [] (x ∷ xs) = ap (λ ys. x ∷ ys) (leaf_names listing place label [] xs)
leaf_names listing place label (i ∷ items) xs = ap (λ ys. i.node.name ∷ ys) (leaf_names listing place label items xs)

task_behind : (listing : List Name) (place : ℕ) (task : tasks.TaskLine) (due : Due) (known : List DueItem) (numbers waits : List ℕ) → AreNeeds known due task.label numbers
    → HasTask (record { task = task; due = Some due }) (known ++ behind_needs listing place task due.makes (length known) numbers waits)
task_behind listing place task due known numbers [] needs = record {
  front = known;
  item = task_item place task (due_node listing due.makes numbers);
  later = [];
  items_are = refl;
  is_task = record {
    name_is = refl;
    recipe = refl;
    phony_is = refl;
    needs = λ d is. let same : due ≡ d = cc in subst (λ (e : Due). AreNeeds known e task.label numbers) same needs;
  };
}
task_behind listing place task due known numbers (n ∷ waits) needs =
    let order = order_item place task.label (n ∷ waits) in
    let item = task_item place task (due_node listing due.makes (numbers ++ length known ∷ [])) in
    record {
      front = known ++ order ∷ [];
      item = item;
      later = [];
      items_are = sym (append_assoc known (order ∷ []) (item ∷ []));
      is_task = record {
        name_is = refl;
        recipe = refl;
        phony_is = refl;
        needs = λ d is.
            let same : due ≡ d = cc in
            subst (λ (e : Due). AreNeeds (known ++ order ∷ []) e task.label (numbers ++ length known ∷ [])) same
            (needs_ordered known due task.label place (n ∷ waits) numbers needs);
      };
    }

line_task : (listing : List Name) (place : ℕ) (items : List DueItem) (task : tasks.TaskLine) (due : Option Due) (waits : List ℕ)
    → HasTask (record { task = task; due = due }) (items ++ items_of_line listing place items task due waits)
line_task listing place items task None waits = record {
  front = items;
  item = task_item place task (always_node task.label waits);
  later = [];
  items_are = refl;
  is_task = record { name_is = refl; recipe = refl; phony_is = refl; needs = λ due is. absurd (cc) };
}
line_task listing place items task (Some due) waits =
    let leaves = leaves_of listing place task.label items due.needs in
    let known = items ++ leaves in
    let numbers = numbers_of (names_of known) due.needs in
    let there : (x : Name) → has same_name due.needs x ≡ true → has same_name (names_of known) x ≡ true = λ x needed.
    subst (λ (all : List Name). has same_name all x ≡ true) (sym (leaf_names listing place task.label items (new_names (names_of items) due.needs)))
    (new_there (names_of items) due.needs x needed) in
    subst (HasTask (record { task = task; due = Some due })) (append_assoc items leaves (behind_needs listing place task due.makes (length known) numbers (others numbers waits)))
    (task_behind listing place task due known numbers (others numbers waits) (needs_known known due task.label there))

-- what a line adds, where it has no fault
line_items : (listing : List Name) (place : ℕ) (items : List DueItem) (line : DueLine) (all : List DueItem) → with_line listing place items line ≡ Ok all
    → (waits : List ℕ) × (all ≡ items ++ items_of_line listing place items line.task line.due waits)
line_items listing place items line all is = by (is_some (task_number items line.task.label)) is
  where
    on_early : (waits : List ℕ) (o : Option Name)
        → option_map_or (λ x. Err (reported NotAwaited place (x ∷ []))) o (with_items place items (items_of_line listing place items line.task line.due waits)) ≡ Ok all
        → all ≡ items ++ items_of_line listing place items line.task line.due waits
    on_early waits None e = items_are place items (items_of_line listing place items line.task line.due waits) all e
    on_early waits (Some x) e = absurd (let f : ◌≡◌ {A = Result (List DueItem) Reported} (Err (reported NotAwaited place (x ∷ []))) (Ok all) = e in cc)

    on_waits : (r : Result (List ℕ) Reported) → and_then (with_task listing place items line.task line.due) r ≡ Ok all
        → (waits : List ℕ) × (all ≡ items ++ items_of_line listing place items line.task line.due waits)
    on_waits (Ok waits) e = (waits, on_early waits (early_need items line.due waits) e)
    on_waits (Err fault) e = absurd (let f : ◌≡◌ {A = Result (List DueItem) Reported} (Err fault) (Ok all) = e in cc)

    by : (b : Bool) → cond b (Err (reported TaskTwice place (line.task.label ∷ []))) (and_then (with_task listing place items line.task line.due) (waits_among place items [] line.task.after)) ≡ Ok all
        → (waits : List ℕ) × (all ≡ items ++ items_of_line listing place items line.task line.due waits)
    by true e = absurd (let f : ◌≡◌ {A = Result (List DueItem) Reported} (Err (reported TaskTwice place (line.task.label ∷ []))) (Ok all) = e in cc)
    by false e = on_waits (waits_among place items [] line.task.after) e

-- the phony nodes are those of tasks that always run
abbrev IsOwn : DueItem → Type 0
IsOwn item = item.node.phony ≡ true → (label : Name) × (item.node.name ≡ own_name label)

not_own : (item : DueItem) → item.node.phony ≡ false → IsOwn item
not_own item plain phony = absurd (both_ways item.node.phony plain phony)

leaves_own : (listing : List Name) (place : ℕ) (label : Name) (xs : List Name) → All IsOwn (map (leaf listing place label) xs)
leaves_own listing place label [] = All-nil IsOwn
leaves_own listing place label (x ∷ xs) =
    All-cons IsOwn (leaf listing place label x) (map (leaf listing place label) xs) (not_own (leaf listing place label x) refl) (leaves_own listing place label xs)

behind_own : (listing : List Name) (place : ℕ) (line : tasks.TaskLine) (makes : Name) (count : ℕ) (needs waits : List ℕ) → All IsOwn (behind_needs listing place line makes count needs waits)
behind_own listing place line makes count needs [] =
    let item = task_item place line (due_node listing makes needs) in
    All-cons IsOwn item [] (not_own item refl) (All-nil IsOwn)
behind_own listing place line makes count needs (n ∷ waits) =
    let order = order_item place line.label (n ∷ waits) in
    let item = task_item place line (due_node listing makes (needs ++ count ∷ [])) in
    All-cons IsOwn order (item ∷ []) (not_own order refl) (All-cons IsOwn item [] (not_own item refl) (All-nil IsOwn))

line_own : (listing : List Name) (place : ℕ) (items : List DueItem) (task : tasks.TaskLine) (due : Option Due) (waits : List ℕ) → All IsOwn (items_of_line listing place items task due waits)
line_own listing place items task None waits =
    All-cons IsOwn (task_item place task (always_node task.label waits)) [] (λ phony. (task.label, refl)) (All-nil IsOwn)
line_own listing place items task (Some due) waits =
    let leaves = leaves_of listing place task.label items due.needs in
    let known = items ++ leaves in
    let numbers = numbers_of (names_of known) due.needs in
    All-append IsOwn leaves (behind_needs listing place task due.makes (length known) numbers (others numbers waits))
    (leaves_own listing place task.label (new_names (names_of items) due.needs)) (behind_own listing place task due.makes (length known) numbers (others numbers waits))

-- what a physical line adds, where it has no fault
record IsAdded (root : List ℕ) (items all : List DueItem) (text : List ℕ) : Type 0 where
  pub new : List DueItem
  pub all_are : all ≡ items ++ new
  pub own : All IsOwn new
  pub task : (line : DueLine) → is_blank text ≡ false → line_of root text ≡ Some line → HasTask line all

text_adds : (root : List ℕ) (listing : List Name) (place : ℕ) (items : List DueItem) (text : List ℕ) (all : List DueItem)
    → with_text root listing place items text ≡ Ok all → IsAdded root items all text
text_adds root listing place items text all is = by (is_blank text) refl is
  where
    on_line : (o : Option DueLine) → line_of root text ≡ o → option_map_or (with_line listing place items) o (Err (reported BadTask place [])) ≡ Ok all → IsAdded root items all text
    on_line None e f = absurd (let g : ◌≡◌ {A = Result (List DueItem) Reported} (Err (reported BadTask place [])) (Ok all) = f in cc)
    on_line (Some line) e f =
        let adds = line_items listing place items line all f in
        let new = items_of_line listing place items line.task line.due adds.0 in
        record {
          new = new;
          all_are = adds.1;
          own = line_own listing place items line.task line.due adds.0;
          task = λ other not_blank reads.
              let both : Some line ≡ Some other = sym e ∙ reads in
              let same : line ≡ other = cc in
              subst (λ (l : DueLine). HasTask l all) same
              (subst (HasTask line) (sym adds.1) (line_task listing place items line.task line.due adds.0));
        }

    by : (b : Bool) → is_blank text ≡ b → cond b (Ok items) (option_map_or (with_line listing place items) (line_of root text) (Err (reported BadTask place []))) ≡ Ok all
        → IsAdded root items all text
    by true e f =
        let g : ◌≡◌ {A = Result (List DueItem) Reported} (Ok items) (Ok all) = f in
        let same : items ≡ all = cc in
        record {
          new = [];
          all_are = sym same ∙ sym (append-nil items);
          own = All-nil IsOwn;
          task = λ line not_blank reads. absurd (both_ways _ not_blank e);
        }
    by false e f = on_line (line_of root text) refl f

-- a task stays where more comes behind it
task_stays : (line : DueLine) (items new all : List DueItem) → all ≡ items ++ new → HasTask line items → HasTask line all
task_stays line items new all are task = record {
  front = task.front;
  item = task.item;
  later = task.later ++ new;
  items_are = are ∙ ap (λ (is : List DueItem). is ++ new) task.items_are ∙ append_assoc task.front (task.item ∷ task.later) new;
  is_task = task.is_task;
}

-- each line that is said has its task
said_task : (root : List ℕ) (listing : List Name) {texts : List (List ℕ)} {items : List DueItem} → AreItems root listing texts items
    → (said : List ℕ) (line : DueLine) → has same_name texts said ≡ true → is_blank said ≡ false → line_of root said ≡ Some line → HasTask line items
said_task root listing none said line among not_blank reads = absurd (both_ways _ refl among)
said_task root listing (more {texts} {items} {all} text are is) said line among not_blank reads =
    let adds = text_adds root listing (place_behind texts) items text all is in
    elim (lists.in_push_cases same_name name_is_exact texts text said among) [
      | inl earlier ↦ task_stays line items adds.new all adds.all_are (said_task root listing are said line earlier not_blank reads)
      | inr same ↦ adds.task line (ap is_blank same ∙ not_blank) (ap (line_of root) same ∙ reads)
    ]

all_own : (root : List ℕ) (listing : List Name) {texts : List (List ℕ)} {items : List DueItem} → AreItems root listing texts items → All IsOwn items
all_own root listing none = All-nil IsOwn
all_own root listing (more {texts} {items} {all} text are is) =
    let adds = text_adds root listing (place_behind texts) items text all is in
    subst (All IsOwn) (sym adds.all_are) (All-append IsOwn items adds.new (all_own root listing are) adds.own)

own_at : (items : List DueItem) (p : ℕ) → All IsOwn items → (node_in items p).phony ≡ true → (label : Name) × ((node_in items p).name ≡ own_name label)
own_at [] p all phony = absurd (both_ways _ refl phony)
own_at (i ∷ items) ℕ.zero all phony = All-head IsOwn i items all phony
own_at (i ∷ items) (ℕ.suc p) all phony = own_at items p (All-tail IsOwn i items all) phony

module _ (root : List ℕ) (items : List DueItem) where
  abbrev jobs : Jobs
  jobs = jobs_of root items

  node_is : (n : ℕ) → node_at jobs n ≡ node_in items n
  node_is n = unwrap_or-slice_get (nodes_of items) n nobody

  name_is : (n : ℕ) → name_of jobs n ≡ (node_in items n).name
  unfolding name_of
  name_is n = ap (λ (node : Node). node.name) (node_is n)

  needs_are : (n : ℕ) → prerequisites_of jobs n ≡ (node_in items n).prerequisites
  unfolding prerequisites_of
  needs_are n = ap (λ (node : Node). node.prerequisites) (node_is n)

  recipe_is : (n : ℕ) → has_recipe jobs n ≡ has_commands (node_in items n).maker
  unfolding has_recipe
  recipe_is n = ap (λ (node : Node). has_commands node.maker) (node_is n)

  phony_is : (n : ℕ) → is_phony jobs n ≡ (node_in items n).phony
  unfolding is_phony
  phony_is n = ap (λ (node : Node). node.phony) (node_is n)

  count_is : node_count jobs ≡ length items
  unfolding node_count
  count_is = length-map items (λ (i : DueItem). i.node)

  module _ (line : DueLine) (task : HasTask line items) (own : All IsOwn items) (valid : IsValid jobs)
      (tie : Bool) (limit : ℕ) (opening : Store) (past : List Event) (no_own : HasNoOwnNames opening) (rests : LetsRest tie opening line)
      (run : IsRun jobs tie limit opening past) (complete : IsComplete jobs past) where
    abbrev n : ℕ
    n = length task.front

    here : node_in items n ≡ task.item.node
    here = ap (λ (is : List DueItem). node_in is n) task.items_are ∙ in_here task.front task.later task.item

    before : (p : ℕ) → p < n → node_in items p ≡ node_in task.front p
    before p less = ap (λ (is : List DueItem). node_in is p) task.items_are ∙ in_left task.front (task.item ∷ task.later) p less

    inside : n < node_count jobs
    inside = omega (arith, count_is, ap (λ (is : List DueItem). length is) task.items_are, length-append task.front (task.item ∷ task.later))

    named : name_of jobs n ≡ task_name line
    named = name_is n ∙ ap (λ (node : Node). node.name) here ∙ task.is_task.name_is

    with_recipe : has_recipe jobs n ≡ true
    with_recipe = recipe_is n ∙ ap (λ (node : Node). has_commands node.maker) here ∙ task.is_task.recipe

    phony : is_phony jobs n ≡ is_none line.due
    phony = phony_is n ∙ ap (λ (node : Node). node.phony) here ∙ task.is_task.phony_is

    prerequisites : prerequisites_of jobs n ≡ task.item.node.prerequisites
    prerequisites = needs_are n ∙ ap (λ (node : Node). node.prerequisites) here

    -- the name of the file of a task that says when it is due
    makes : (due : Due) → line.due ≡ Some due → name_of jobs n ≡ due.makes
    makes due says = named ∙ ap (λ (o : Option Due). option_map_or (λ (d : Due). d.makes) o (own_name line.task.label)) says

    -- a prerequisite is needed, or it is the order node
    step_is : (due : Due) → line.due ≡ Some due → (p : ℕ) → IsPrerequisite jobs p n
        → (has same_name due.needs (name_of jobs p) ≡ true) ⊎ IsOrderNode line.task.label (node_in items p)
    step_is due says p step =
        let among : has nat_eq task.item.node.prerequisites p ≡ true =
        contains_has task.item.node.prerequisites p (subst (λ (ps : List ℕ). Contains ps p) prerequisites step) in
        let at = (task.is_task.needs due says).only p among in
        let same : node_in items p ≡ node_in task.front p = before p at.0 in
        elim at.1 [
          | inl needed ↦ inl (subst (λ (x : Name). has same_name due.needs x ≡ true) (sym (name_is p ∙ ap (λ (node : Node). node.name) same)) needed)
          | inr order ↦ inr (subst (IsOrderNode line.task.label) (sym same) order)
        ]

    -- what is needed is a prerequisite
    need_is : (due : Due) → line.due ≡ Some due → (x : Name) → has same_name due.needs x ≡ true → (p : ℕ) × IsPrerequisite jobs p n × (name_of jobs p ≡ x)
    need_is due says x needed =
        let at = (task.is_task.needs due says).each x needed in (
          at.0,
          subst (λ (ps : List ℕ). Contains ps at.0) (sym prerequisites) (has_contains task.item.node.prerequisites at.0 at.1),
          name_is at.0 ∙ ap (λ (node : Node). node.name) (before at.0 at.2) ∙ at.3,
        )

    -- a file with a task's own name makes each file out of date
    own_old : (own_file : File) (p : ℕ) → is_phony jobs p ≡ true → outdates tie (Some own_file) (opening (name_of jobs p)) ≡ true
    own_old own_file p is =
        let at = own_at items p own (sym (phony_is p) ∙ is) in
        ap (outdates tie (Some own_file)) (absent_if _ (subst (λ (x : Name). is_some (opening x) ≡ false) (sym (name_is p ∙ at.1)) (no_own at.0)))

    -- the order node wakes nobody
    order_rests : (due : Due) → line.due ≡ Some due → (own_file : File) → opening due.makes ≡ Some own_file → (p : ℕ) → IsOrderNode line.task.label (node_in items p)
        → is_phony jobs p || outdates tie (Some own_file) (opening (name_of jobs p)) ≡ false
    order_rests due says own_file some p order =
        ap (λ b. b || outdates tie (Some own_file) (opening (name_of jobs p))) (phony_is p ∙ order.plain)
        ∙ ap (λ x. outdates tie (Some own_file) (opening x)) (name_is p ∙ order.name_is) ∙ rests due own_file says some

    order_idle : (p : ℕ) → p < node_count jobs → IsOrderNode line.task.label (node_in items p) → has_write (name_of jobs p) (history past p) ≡ false
    order_idle p below order =
        let d = decided jobs tie limit opening past p run (passed_begun (phase past p) (complete p below)) in
        let recipe : has_recipe jobs p ≡ false = recipe_is p ∙ order.idle in
        let idle : is_started (phase past p) ≡ false = d.chosen ∙ rw recipe refl in
        ap (has_write (name_of jobs p)) (unstarted_empty jobs tie limit opening past p run idle)

    due_by : (due : Due) → line.due ≡ Some due → HasReason jobs tie opening past n → IsDue jobs tie opening past (Some due)
    due_by due says (stale old) = split_option (opening due.makes)
        (λ gone. absent gone)
        (λ own_file some.
        let file : opening (name_of jobs n) ≡ Some own_file = ap opening (makes due says) ∙ some in
        let plain : is_phony jobs n ≡ false = phony ∙ ap is_none says in
        let one = one_passes _ (prerequisites_of jobs n) (rw (plain, file) at old) in
        elim (step_is due says one.0 one.1) [
          | inl needed ↦ older (name_of jobs one.0) needed (subst (λ (f : Option File). outdates tie f (opening (name_of jobs one.0)) ≡ true) (sym some)
              (split (is_phony jobs one.0) (own_old own_file one.0) (λ other. rw other at one.2)))
          | inr order ↦ absurd (both_ways _ (order_rests due says own_file some one.0 order) one.2)
        ])
    due_by due says (woken {p = p} step wrote_it) = elim (step_is due says p step) [
      | inl needed ↦ is_made (name_of jobs p) needed (p, refl, wrote_it)
      | inr order ↦ absurd (both_ways _ (order_idle p (lt_trans (valid.smaller n p step) inside) order) wrote_it)
    ]

    reason_for : (due : Due) → line.due ≡ Some due → IsDue jobs tie opening past (Some due) → HasReason jobs tie opening past n
    reason_for due says (absent gone) = stale (absent_stale jobs tie opening n (ap opening (makes due says) ∙ gone))
    reason_for due says (older x needed old) =
        let at = need_is due says x needed in
        stale (stale_by jobs tie opening n at.0 at.1 (λ own_file some. or_right _ _
        (subst (λ (y : Name). outdates tie (Some own_file) (opening y) ≡ true) (sym at.2)
        (subst (λ (f : Option File). outdates tie f (opening x) ≡ true) (ap opening (sym (makes due says)) ∙ some) old))))
    reason_for due says (is_made x needed (q, name_q, wrote_it)) =
        let at = need_is due says x needed in
        let last = last_written x (history past q) wrote_it in
        let may = (wrote jobs tie limit opening past q x last.0 run last.1).0 in
        let same : q ≡ at.0 = valid.own q at.0 (lt_trans (valid.smaller n at.0 at.1) inside) (subst (λ (y : Name). may_write jobs q y ≡ true) (sym at.2) may) in
        woken at.1 (subst (λ (y : Name). has_write y (history past at.0) ≡ true) (sym at.2) (subst (λ k. has_write x (history past k) ≡ true) same wrote_it))

    both : (o : Option Due) → line.due ≡ o → (is_started (phase past n) ≡ true) ↔ IsDue jobs tie opening past o
    both None says =
        let r = runs_by_reason jobs tie limit opening past n valid run complete inside with_recipe in
        (λ started. always, λ due. r.1 (stale (phony_stale jobs tie opening n (phony ∙ ap is_none says))))
    both (Some due) says =
        let r = runs_by_reason jobs tie limit opening past n valid run complete inside with_recipe in
        (λ started. due_by due says (r.0 started), λ due_now. r.1 (reason_for due says due_now))

    runs_when_due : RunsWhenDue jobs tie opening past line
    runs_when_due = record { node = n; inside = inside; name_is = named; runs = both line.due refl }

-- the jobs of a text are those of its items
record AreJobsOf (root : List ℕ) (listing : List Name) (text : List ℕ) (jobs : Jobs) : Type 0 where
  pub items : List DueItem
  pub are : AreItems root listing (lines text) items
  pub jobs_are : jobs ≡ jobs_of root items

jobs_in : (root : List ℕ) (listing : List Name) (text : List ℕ) (jobs : Jobs) → AreJobsIn root listing text (Ok jobs) → AreJobsOf root listing text jobs
jobs_in root listing text jobs (Err fault, mean, is) = absurd (let e : ◌≡◌ {A = Result Jobs Reported} (Ok jobs) (Err fault) = is in cc)
jobs_in root listing text jobs (Ok items, mean, is) = by (first_fault root (listings.in_order (names_of items)) items) is
  where
    by : (o : Option Reported) → Ok jobs ≡ option_map_or (λ fault. Err fault) o (Ok (jobs_of root items)) → AreJobsOf root listing text jobs
    by None e = (let f : ◌≡◌ {A = Result Jobs Reported} (Ok jobs) (Ok (jobs_of root items)) = e in record { items = items; are = mean; jobs_are = cc })
    by (Some fault) e = absurd (let f : ◌≡◌ {A = Result Jobs Reported} (Ok jobs) (Err fault) = e in cc)

pub due_tasks_run : DueTasksRun
due_tasks_run root listing text jobs line tie limit opening past given valid said no_own rests run complete =
    let is = jobs_in root listing text jobs given in
    let task = said_task root listing is.are said.said line said.among said.not_blank said.reads in
    subst (λ (j : Jobs). RunsWhenDue j tie opening past line) (sym is.jobs_are)
    (runs_when_due root is.items line task (all_own root listing is.are) (subst IsValid is.jobs_are valid) tie limit opening past no_own rests
    (subst (λ (j : Jobs). IsRun j tie limit opening past) is.jobs_are run) (subst (λ (j : Jobs). IsComplete j past) is.jobs_are complete))
