-- The nodes that the lines of a text mean, or the first line at fault.
use Rattle.std.specs.Prelude.{ℕ, ◌≡◌, ◌+◌, ◌&&◌, not, Bool, true, false, List, [], ◌∷◌, ◌++◌, Option, None, Some, Result, Ok, Err, filter, find, fold, is_none, is_some, length, map, nat_eq, position, if◌then◌else◌}
use Rattle.std.specs.BTreeSet.{insert_key}
use Rattle.std.specs.List.{filter_map, sum_by}
use Rattle.std.specs.Option.{option_map_or}
use Rattle.std.specs.Ordering.{nat_cmp}
use Rattle.mk_name.specs.Names.{Name, has, same_name}
use Rattle.mk_name.specs.Reported.{Reported}
use Rattle.mk_name.specs.declared.fault.Kind.{Kind}
use Rattle.mk_name.specs.declared.fault.Kind.TheVariants.{BadTask, NotAwaited, TaskTwice, UnknownTask}
use Rattle.mk_text.specs.LineFeed.{place_behind}
use Rattle.mk_path.specs.declared.path.Path.{Path}
use Rattle.mk_jobs.specs.Jobs.{has_commands}
use Rattle.mk_jobs.specs.Numbered.{number_of}
use Rattle.mk_jobs.specs.Plan.{Node}
use Rattle.mk_jobs.specs.declared.maker.Maker.TheVariants.{Nothing, Rule}
use Rattle.mk_foot.specs.Json.{is_blank}
use Rattle.mk_task.specs.JobsOf.{own_name}
use Rattle.mk_task.specs.Lines as tasks
use Rattle.mk_task.specs.Tasks.{and_then, limit_passed, reported}
use Rattle.mk_due.specs.Awaited.{first_early}
use Rattle.mk_due.specs.Lines.{Due, DueLine, line_of}

-- a node; the line that it comes from, by its label and place; and the paths that are read and written there
pub record DueItem : Type 0 where
  pub node : Node
  pub label : Name
  pub place : ℕ
  pub reads : List Path
  pub writes : List Path

-- the nodes of items, and their names; a node's number is its place among them
abbrev pub nodes_of : List DueItem → List Node
nodes_of items = map (λ (item : DueItem). item.node) items

abbrev pub names_of : List DueItem → List Name
names_of items = map (λ (item : DueItem). item.node.name) items

-- how many edges lead to them
abbrev pub edge_count : List DueItem → ℕ
edge_count items = sum_by (λ (item : DueItem). length item.node.prerequisites) items

-- how many paths they read and write, with repeats
abbrev pub path_count : List DueItem → ℕ
path_count items = sum_by (λ (item : DueItem). length item.reads + length item.writes) items

-- the number of the task with a label: only tasks have a recipe
abbrev pub is_task : Name → DueItem → Bool
is_task label item = has_commands item.node.maker && same_name item.label label

abbrev pub task_number : List DueItem → Name → Option ℕ
task_number items label = position (is_task label) items

-- the numbers of the tasks of some labels put among others, rising, each once; or the first label that is no task's
abbrev pub waits_among : ℕ → List DueItem → List ℕ → List Name → Result (List ℕ) Reported
waits_among place items numbers after =
    option_map_or (λ x. Err (reported UnknownTask place (x ∷ []))) (find (λ x. is_none (task_number items x)) after)
    (Ok (fold (insert_key nat_cmp) numbers (filter_map (task_number items) after)))

-- the numbers of names, rising, each once
abbrev pub numbers_of : List Name → List Name → List ℕ
numbers_of names some = fold (insert_key nat_cmp) [] (filter_map (number_of names) some)

-- of the numbers of the tasks that a line waits for, those that it does not need
abbrev pub others : List ℕ → List ℕ → List ℕ
others needs waits = filter (λ n. not (has nat_eq needs n)) waits

-- the name of the order node of a line, which no path spells and no file has: two slashes, a byte 1 and the label
abbrev pub order_name : Name → Name
order_name label = 47 ∷ 47 ∷ 1 ∷ label

-- a file that a line needs and no line before it makes: it has no recipe, and is there where the listing has it
abbrev pub leaf : List Name → ℕ → Name → Name → DueItem
leaf listing place label x = record {
  node = record { name = x; prerequisites = []; maker = Nothing; phony = false; listed = has same_name listing x };
  label = label;
  place = place;
  reads = [];
  writes = [];
}

-- an order node: it has no recipe and is always there, so what stands behind it waits for its prerequisites, and none of them wakes it
abbrev pub order_item : ℕ → Name → List ℕ → DueItem
order_item place label numbers = record {
  node = record { name = order_name label; prerequisites = numbers; maker = Nothing; phony = false; listed = true };
  label = label;
  place = place;
  reads = [];
  writes = [];
}

-- a task with this node
abbrev pub task_item : ℕ → tasks.TaskLine → Node → DueItem
task_item place line node = record { node = node; label = line.label; place = place; reads = line.reads; writes = line.writes }

-- the node of a task that always runs: it is phony
abbrev pub always_node : Name → List ℕ → Node
always_node label numbers = record { name = own_name label; prerequisites = numbers; maker = Rule; phony = true; listed = false }

-- the node of a task that makes a file: it runs where the file is absent or older than one of its prerequisites
abbrev pub due_node : List Name → Name → List ℕ → Node
due_node listing makes numbers = record { name = makes; prerequisites = numbers; maker = Rule; phony = false; listed = has same_name listing makes }

-- a limit that is passed is this line's fault
abbrev pub unless_passed : ℕ → List DueItem → Option Kind → Result (List DueItem) Reported
unless_passed place items None = Ok items
unless_passed place items (Some kind) = Err (reported kind place [])

-- items, where there are not too many nodes, edges or paths
abbrev pub within : ℕ → List DueItem → Result (List DueItem) Reported
within place items = unless_passed place items (limit_passed (length items) (edge_count items) (path_count items))

-- items and one behind them, whose name none of them has; only the name of a file that a task makes can be there already
abbrev pub with_item : ℕ → List DueItem → DueItem → Result (List DueItem) Reported
with_item place items new =
    if has same_name (names_of items) new.node.name then Err (reported TaskTwice place (new.node.name ∷ [])) else within place (items ++ new ∷ [])

-- items and others behind them, one after another; or the fault of the first that has one
abbrev pub with_items : ℕ → List DueItem → List DueItem → Result (List DueItem) Reported
with_items place items [] = Ok items
with_items place items (new ∷ more) = and_then (λ all. with_items place all more) (with_item place items new)

-- those of some names that are none of the others, each once
abbrev pub new_names : List Name → List Name → List Name
new_names names [] = []
new_names names (x ∷ some) = if has same_name names x then new_names names some else x ∷ new_names (names ++ x ∷ []) some

-- a leaf for each file that a line needs and no item has
abbrev pub leaves_of : List Name → ℕ → Name → List DueItem → List Name → List DueItem
leaves_of listing place label items needs = map (leaf listing place label) (new_names (names_of items) needs)

-- the task of a line that makes a file, behind so many items and behind what it needs; where it waits for others, these have an order node before it
abbrev pub behind_needs : List Name → ℕ → tasks.TaskLine → Name → ℕ → List ℕ → List ℕ → List DueItem
behind_needs listing place line makes count needs [] = task_item place line (due_node listing makes needs) ∷ []
behind_needs listing place line makes count needs (n ∷ more) =
    order_item place line.label (n ∷ more) ∷ task_item place line (due_node listing makes (needs ++ count ∷ [])) ∷ []

-- the same, where it waits for these tasks, and needs the files of these items
abbrev pub behind_items : List Name → ℕ → tasks.TaskLine → Due → List ℕ → List DueItem → List DueItem
behind_items listing place line due waits items =
    behind_needs listing place line due.makes (length items) (numbers_of (names_of items) due.needs) (others (numbers_of (names_of items) due.needs) waits)

-- what a line adds behind earlier items, where it waits for these tasks: its leaves, its order node and its task
abbrev pub items_of_line : List Name → ℕ → List DueItem → tasks.TaskLine → Option Due → List ℕ → List DueItem
items_of_line listing place earlier line None waits = task_item place line (always_node line.label waits) ∷ []
items_of_line listing place earlier line (Some due) waits =
    let leaves = leaves_of listing place line.label earlier due.needs in
    leaves ++ behind_items listing place line due waits (earlier ++ leaves)

-- the first file that a line needs, for whose task it does not wait
abbrev pub early_need : List DueItem → Option Due → List ℕ → Option Name
early_need items None waits = None
early_need items (Some due) waits = first_early (nodes_of items) waits due.needs

-- earlier items and those of a line that waits for these tasks, unless it needs a file too early
abbrev pub with_task : List Name → ℕ → List DueItem → tasks.TaskLine → Option Due → List ℕ → Result (List DueItem) Reported
with_task listing place earlier line due waits =
    option_map_or (λ x. Err (reported NotAwaited place (x ∷ []))) (early_need earlier due waits)
    (with_items place earlier (items_of_line listing place earlier line due waits))

-- earlier items and those of a line at a place, or the line's fault: an earlier task has its label; it waits for a label that is no
-- task's; it needs a file of a task for which it does not wait; or that of the first of its items that has one
abbrev pub with_line : List Name → ℕ → List DueItem → DueLine → Result (List DueItem) Reported
with_line listing place earlier line =
    if is_some (task_number earlier line.task.label) then Err (reported TaskTwice place (line.task.label ∷ []))
    else and_then (with_task listing place earlier line.task line.due) (waits_among place earlier [] line.task.after)

-- what a physical line leads to behind earlier items; a blank line says nothing
abbrev pub with_text : List ℕ → List Name → ℕ → List DueItem → List ℕ → Result (List DueItem) Reported
with_text root listing place earlier text =
    if is_blank text then Ok earlier else option_map_or (with_line listing place earlier) (line_of root text) (Err (reported BadTask place []))

-- the items of physical lines: of none there are none, and behind those of all lines but the last come those of the last one
pub data AreItems (root : List ℕ) (listing : List Name) : List (List ℕ) → List DueItem → Type 0 where
  none : AreItems root listing [] []
  more : {texts : List (List ℕ)} {items all : List DueItem} (text : List ℕ) → AreItems root listing texts items
      → with_text root listing (place_behind texts) items text ≡ Ok all → AreItems root listing (texts ++ text ∷ []) all

-- the fault of physical lines: that of the first line that has one behind the items of those before it
pub record HaveFault (root : List ℕ) (listing : List Name) (texts : List (List ℕ)) (fault : Reported) : Type 0 where
  pub before : List (List ℕ)
  pub text : List ℕ
  pub later : List (List ℕ)
  pub texts_are : texts ≡ before ++ text ∷ later
  pub items : List DueItem
  pub are : AreItems root listing before items
  pub faulty : with_text root listing (place_behind before) items text ≡ Err fault

-- physical lines mean these items, or have this fault
abbrev pub LinesMean : List ℕ → List Name → List (List ℕ) → Result (List DueItem) Reported → Type 0
LinesMean root listing texts (Ok items) = AreItems root listing texts items
LinesMean root listing texts (Err fault) = HaveFault root listing texts fault
