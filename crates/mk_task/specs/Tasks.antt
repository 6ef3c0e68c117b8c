-- The tasks that the lines of a text say, or the first line at fault.
use Rattle.std.specs.Prelude.{ℕ, ◌+◌, ◌||◌, List, [], ◌∷◌, ◌++◌, Option, None, Some, Result, Ok, Err, length, map, nat_lt, if◌then◌else◌}
use Rattle.std.specs.BTreeSet.{insert_key}
use Rattle.std.specs.List.{sum_by}
use Rattle.std.specs.Ordering.{nat_cmp}
use Rattle.mk_name.specs.Names.{Name, has, same_name}
use Rattle.mk_name.specs.Reported.{Reported}
use Rattle.mk_name.specs.declared.fault.Kind.{Kind}
use Rattle.mk_name.specs.declared.fault.Kind.TheVariants.{BadTask, TaskTwice, UnknownTask, TooManyTasks, TasksTooLarge}
use Rattle.mk_name.specs.declared.fault.Source.TheVariants as sources
use Rattle.mk_text.specs.Listing.{lines, next_place}
use Rattle.mk_path.specs.declared.path.Path.{Path}
use Rattle.mk_jobs.specs.Numbered.{number_of}
use Rattle.mk_jobs.specs.Plan.{edge_limit, node_limit}
use Rattle.mk_foot.specs.Footprints.{path_limit}
use Rattle.mk_foot.specs.Json.{is_blank}
use Rattle.mk_task.specs.Lines.{TaskLine, line_of}

-- a task: its label, the numbers of the earlier tasks that it stands behind, rising, and the paths that it reads and writes
pub record Task : Type 0 where
  pub label : Name
  pub needs : List ℕ
  pub reads : List Path
  pub writes : List Path

-- the labels of tasks; a task's number is its place among them
abbrev pub labels_of : List Task → List Name
labels_of tasks = map (λ (task : Task). task.label) tasks

-- how many edges lead to tasks
abbrev pub edge_count : List Task → ℕ
edge_count tasks = sum_by (λ (task : Task). length task.needs) tasks

-- how many paths tasks read and write, with repeats
abbrev pub path_count : List Task → ℕ
path_count tasks = sum_by (λ (task : Task). length task.reads + length task.writes) tasks

-- a fault of the line at a place, which reports these names
abbrev pub reported : Kind → ℕ → List Name → Reported
reported kind place names = record { kind = kind; source = sources.Tasks; place = place; names = names }

-- a fault ends it; a value goes on
abbrev pub and_then : {X Y : Type 0} → (X → Result Y Reported) → Result X Reported → Result Y Reported
and_then next (Ok value) = next value
and_then next (Err fault) = Err fault

-- no number is this fault; a number goes on
abbrev pub on_number : Reported → (ℕ → Result (List ℕ) Reported) → Option ℕ → Result (List ℕ) Reported
on_number fault next None = Err fault
on_number fault next (Some n) = next n

-- the numbers of labels put among others, rising, each once; or the first label that is no task's
abbrev pub needs_from : ℕ → List Name → List ℕ → List Name → Result (List ℕ) Reported
needs_from place labels numbers [] = Ok numbers
needs_from place labels numbers (x ∷ after) =
    on_number (reported UnknownTask place (x ∷ [])) (λ n. needs_from place labels (insert_key nat_cmp numbers n) after) (number_of labels x)

-- the task of a line, given the numbers of what it stands behind
abbrev pub task_of : TaskLine → List ℕ → Task
task_of line needs = record { label = line.label; needs = needs; reads = line.reads; writes = line.writes }

-- the limit that so many tasks, edges and paths pass, if they pass one
abbrev pub limit_passed : ℕ → ℕ → ℕ → Option Kind
limit_passed tasks edges paths =
    if nat_lt node_limit tasks || nat_lt edge_limit edges then Some TooManyTasks
    else (if nat_lt path_limit paths then Some TasksTooLarge else None)

-- a limit that is passed is this line's fault
abbrev pub unless_passed : ℕ → List Task → Option Kind → Result (List Task) Reported
unless_passed place tasks None = Ok tasks
unless_passed place tasks (Some kind) = Err (reported kind place [])

-- tasks, where there are not too many of them, nor too many edges or paths
abbrev pub within : ℕ → List Task → Result (List Task) Reported
within place tasks = unless_passed place tasks (limit_passed (length tasks) (edge_count tasks) (path_count tasks))

-- earlier tasks and the one of a line, which stands behind these numbers, unless a label was none's
abbrev pub with_needs : ℕ → List Task → TaskLine → Result (List ℕ) Reported → Result (List Task) Reported
with_needs place earlier line (Ok needs) = within place (earlier ++ task_of line needs ∷ [])
with_needs place earlier line (Err fault) = Err fault

-- earlier tasks and the one of a line at a place, or the line's fault
abbrev pub with_line : ℕ → List Task → TaskLine → Result (List Task) Reported
with_line place earlier line =
    if has same_name (labels_of earlier) line.label then Err (reported TaskTwice place (line.label ∷ []))
    else with_needs place earlier line (needs_from place (labels_of earlier) [] line.after)

abbrev pub with_said : ℕ → List Task → Option TaskLine → Result (List Task) Reported
with_said place earlier None = Err (reported BadTask place [])
with_said place earlier (Some line) = with_line place earlier line

-- earlier tasks and the one of a physical line at a place; a blank line says none
abbrev pub with_text : List ℕ → ℕ → List Task → List ℕ → Result (List Task) Reported
with_text root place earlier text = if is_blank text then Ok earlier else with_said place earlier (line_of root text)

-- the tasks of physical lines, of which the first is at this place, behind earlier tasks; or the fault of the first that has one
abbrev pub tasks_from : List ℕ → ℕ → List Task → List (List ℕ) → Result (List Task) Reported
tasks_from root place earlier [] = Ok earlier
tasks_from root place earlier (text ∷ more) = and_then (λ tasks. tasks_from root (next_place place) tasks more) (with_text root place earlier text)

-- the tasks of a text below a root, or the first line's fault
abbrev pub tasks_of : List ℕ → List ℕ → Result (List Task) Reported
tasks_of root text = tasks_from root 1 [] (lines text)
