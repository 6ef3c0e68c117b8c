-- A task behind others.
use Rattle.std.proofs.Common.{ℕ, ◌≡◌, ◌∙◌, ◌<◌, ◌≤◌, ◌+◌, ◌-◌, ◌^◌, ◌||◌, Bool, true, false, cond, List, [], ◌∷◌, ◌++◌, Option, None, Some, Result, Ok, Err, arith, length, nat_lt, refl, sym, ap, ap₂, inl, inr, length-append}
use Rattle.std.specs.Prelude.{is_some, min}
use Rattle.std.proofs.lemmas.Bool.{cases_lt, cond-true, cond-false, le-ltb, lt-ltb, ltb-false, or_parts}
use Rattle.std.proofs.lemmas.List.{map_push}
use Rattle.std.proofs.lemmas.List.Sums.{sum_by_push}
use Rattle.mk_name.specs.Names.{Name, has, kept, same_name}
use Rattle.mk_name.specs.declared.fault.Kind.{Kind}
use Rattle.mk_name.specs.declared.fault.Kind.TheVariants.{TaskTwice, TasksTooLarge, TooManyTasks}
use Rattle.mk_name.proofs.Names.{kept_new, name_is_exact}
use Rattle.mk_jobs.specs.Numbered.{number_of}
use Rattle.mk_jobs.specs.Plan.{edge_limit, node_limit}
use Rattle.mk_jobs.proofs.Numberings.{number_has, number_none}
use Rattle.mk_foot.specs.Footprints.{path_limit}
use Rattle.mk_task.specs.Good.{IsTally, Tally}
use Rattle.mk_task.specs.Lines.{TaskLine}
use Rattle.mk_task.specs.Tasks.{Task, edge_count, labels_of, limit_passed, needs_from, path_count, reported, unless_passed, with_line, with_needs, within}

-- a name has a number where it is there
pub number_there : (names : List Name) (x : Name) → is_some (number_of names x) ≡ has same_name names x
number_there names x = by (number_of names x) refl
  where
    by : (o : Option ℕ) → number_of names x ≡ o → is_some o ≡ has same_name names x
    by None e = sym (number_none names x e)
    by (Some n) e = sym (number_has names x n e)

-- a label that stands there already is the line's fault
pub line_twice : (place : ℕ) (earlier : List Task) (line : TaskLine) → has same_name (labels_of earlier) line.label ≡ true
    → with_line place earlier line ≡ Err (reported TaskTwice place (line.label ∷ []))
line_twice place earlier line here = cond-true (has same_name (labels_of earlier) line.label) _ _ here

-- with a new label it depends on what the task stands behind
pub line_new : (place : ℕ) (earlier : List Task) (line : TaskLine) → has same_name (labels_of earlier) line.label ≡ false
    → with_line place earlier line ≡ with_needs place earlier line (needs_from place (labels_of earlier) [] line.after)
line_new place earlier line new = cond-false (has same_name (labels_of earlier) line.label) _ _ new

pub same_side : (limit a b : ℕ) → (limit < a → limit < b) → (a ≤ limit → b ≤ limit) → nat_lt limit a ≡ nat_lt limit b
same_side limit a b over under = elim (cases_lt limit a) [
  | inl more ↦ lt-ltb limit a more ∙ sym (lt-ltb limit b (over more))
  | inr less ↦ le-ltb limit a less ∙ sym (le-ltb limit b (under less))
]

pub sides : (tasks : ℕ) (edges paths more others : ℕ) → nat_lt edge_limit edges ≡ nat_lt edge_limit more → nat_lt path_limit paths ≡ nat_lt path_limit others
    → limit_passed tasks edges paths ≡ limit_passed tasks more others
sides tasks edges paths more others es ps =
    ap₂ (λ (b c : Bool). cond (nat_lt node_limit tasks || b) (Some TooManyTasks) (cond c (Some TasksTooLarge) None)) es ps

-- the counts of tasks and of one more, of which none passes the greatest number
pub record AreCounts (earlier : List Task) (task : Task) (edges paths : ℕ) : Type 0 where
  pub edges_are : edges ≡ min (edge_count earlier + length task.needs) (2 ^ 64 - 1)
  pub paths_are : paths ≡ min (path_count earlier + (length task.reads + length task.writes)) (2 ^ 64 - 1)

edges_push : (earlier : List Task) (task : Task) → edge_count (earlier ++ task ∷ []) ≡ edge_count earlier + length task.needs
edges_push earlier task = sum_by_push (λ (t : Task). length t.needs) earlier task

paths_push : (earlier : List Task) (task : Task) → path_count (earlier ++ task ∷ []) ≡ path_count earlier + (length task.reads + length task.writes)
paths_push earlier task = sum_by_push (λ (t : Task). length t.reads + length t.writes) earlier task

length_push : (earlier : List Task) (task : Task) → length (earlier ++ task ∷ []) ≡ length earlier + 1
length_push earlier task = length-append earlier (task ∷ [])

-- they pass the limits that all of them pass
pub passed_same : (earlier : List Task) (task : Task) (edges paths : ℕ) → AreCounts earlier task edges paths
    → limit_passed (length earlier + 1) edges paths
    ≡ limit_passed (length (earlier ++ task ∷ [])) (edge_count (earlier ++ task ∷ [])) (path_count (earlier ++ task ∷ []))
passed_same earlier task edges paths counts =
    ap (λ n. limit_passed n edges paths) (sym (length_push earlier task))
    ∙ sides (length (earlier ++ task ∷ [])) edges paths _ _
    (same_side edge_limit edges (edge_count (earlier ++ task ∷ []))
    (λ more. omega (arith, more, counts.edges_are, edges_push earlier task))
    (λ less. omega (arith, less, counts.edges_are, edges_push earlier task)))
    (same_side path_limit paths (path_count (earlier ++ task ∷ []))
    (λ more. omega (arith, more, counts.paths_are, paths_push earlier task))
    (λ less. omega (arith, less, counts.paths_are, paths_push earlier task)))

-- the answer where a limit is passed, and where none is
pub within_passed : (place : ℕ) (earlier : List Task) (task : Task) (edges paths : ℕ) (o : Option Kind) → AreCounts earlier task edges paths
    → o ≡ limit_passed (length earlier + 1) edges paths → within place (earlier ++ task ∷ []) ≡ unless_passed place (earlier ++ task ∷ []) o
within_passed place earlier task edges paths o counts is =
    ap (unless_passed place (earlier ++ task ∷ [])) (sym (is ∙ passed_same earlier task edges paths counts))

-- no limit is passed
pub record AreFew (tasks edges paths : ℕ) : Type 0 where
  pub few : tasks ≤ node_limit
  pub few_edges : edges ≤ edge_limit
  pub few_paths : paths ≤ path_limit

pub few_of : (tasks edges paths : ℕ) → limit_passed tasks edges paths ≡ None → AreFew tasks edges paths
few_of tasks edges paths none = by (nat_lt node_limit tasks || nat_lt edge_limit edges) (nat_lt path_limit paths) refl refl none
  where
    by : (b c : Bool) → (nat_lt node_limit tasks || nat_lt edge_limit edges) ≡ b → nat_lt path_limit paths ≡ c
        → cond b (Some TooManyTasks) (cond c (Some TasksTooLarge) None) ≡ None → AreFew tasks edges paths
    by true c e f is = absurd (let g : Some TooManyTasks ≡ None = is in cc)
    by false true e f is = absurd (let g : Some TasksTooLarge ≡ None = is in cc)
    by false false e f is =
        let parts = or_parts (nat_lt node_limit tasks) (nat_lt edge_limit edges) e in
        record { few = ltb-false node_limit tasks parts.0; few_edges = ltb-false edge_limit edges parts.1; few_paths = ltb-false path_limit paths f }

-- what is kept beside one task more
pub tally_push : (tally : Tally) (task : Task) (edges paths : ℕ) (labels : List Name) → IsTally tally → has same_name tally.labels task.label ≡ false
    → AreCounts tally.tasks task edges paths → None ≡ limit_passed (length tally.tasks + 1) edges paths
    → labels ≡ kept same_name tally.labels (task.label ∷ [])
    → IsTally (record { tasks = tally.tasks ++ task ∷ []; labels = labels; edges = edges; paths = paths })
tally_push tally task edges paths labels good new counts none put =
    let few = few_of (length tally.tasks + 1) edges paths (sym none) in
    record {
      few = omega (arith, few.few, length_push tally.tasks task);
      labels_are =
          put ∙ kept_new same_name name_is_exact tally.labels task.label [] new
          ∙ ap (λ ls. ls ++ task.label ∷ []) good.labels_are ∙ sym (map_push (λ (t : Task). t.label) tally.tasks task);
      edges_are = omega (arith, few.few_edges, counts.edges_are, edges_push tally.tasks task);
      paths_are = omega (arith, few.few_paths, counts.paths_are, paths_push tally.tasks task);
    }

-- how many of a limit there are, where none is passed
pub record AreWithin (tasks given : List Task) : Type 0 where
  pub same : given ≡ tasks
  pub few : length given ≤ node_limit
  pub few_edges : edge_count given ≤ edge_limit

pub within_is : (place : ℕ) (given tasks : List Task) → within place given ≡ Ok tasks → AreWithin tasks given
within_is place given tasks is = by (limit_passed (length given) (edge_count given) (path_count given)) refl is
  where
    by : (o : Option Kind) → limit_passed (length given) (edge_count given) (path_count given) ≡ o → unless_passed place given o ≡ Ok tasks → AreWithin tasks given
    by None e f =
        let few = few_of (length given) (edge_count given) (path_count given) e in
        record { same = (let g : ◌≡◌ {A = Result (List Task) _} (Ok given) (Ok tasks) = f in cc); few = few.few; few_edges = few.few_edges }
    by (Some kind) e f = absurd (let g : ◌≡◌ {A = Result (List Task) _} (Err (reported kind place [])) (Ok tasks) = f in cc)
