-- The jobs of items, or the first task that writes another node's file.
use Rattle.std.specs.Prelude.{ℕ, ◌≡◌, List, [], ◌∷◌, Option, Result, Ok, Err, find, map, slice_get, if◌then◌else◌}
use Rattle.std.specs.List.{filter_map}
use Rattle.std.specs.Option.{option_map, option_map_or}
use Rattle.mk_name.specs.Names.{Name}
use Rattle.mk_name.specs.Reported.{Reported}
use Rattle.mk_name.specs.declared.fault.Kind.TheVariants.{WritesTarget}
use Rattle.mk_text.specs.Listing as listings
use Rattle.mk_text.specs.Listing.{lines}
use Rattle.mk_path.specs.declared.path.Path.{Path}
use Rattle.mk_path.specs.Taken.{is_taken}
use Rattle.mk_jobs.specs.Jobs.{Jobs}
use Rattle.mk_jobs.specs.Recipes.{is_live_node}
use Rattle.mk_foot.specs.Footprints.{in_order}
use Rattle.mk_task.specs.Tasks.{reported}
use Rattle.mk_due.specs.Items.{DueItem, LinesMean, names_of, nodes_of}

-- what an item reads and writes, each path once: nothing where it has no recipe, or its recipe can never run
abbrev pub reads_of : DueItem → List Path
reads_of item = if is_live_node item.node then in_order item.reads else []

abbrev pub writes_of : DueItem → List Path
writes_of item = if is_live_node item.node then in_order item.writes else []

-- the jobs of items, whose paths were read below this root
abbrev pub jobs_of : List ℕ → List DueItem → Jobs
jobs_of root items = record {
  plan = record { nodes = nodes_of items; wait_uses = 0 };
  root = root;
  reads = map reads_of items;
  writes = map writes_of items;
}

-- the fault of an item: it writes a name of another node, of which the least is reported behind its label
abbrev pub item_fault : List ℕ → List Name → DueItem → Option Reported
item_fault root names item =
    option_map (λ x. reported WritesTarget item.place (item.label ∷ x ∷ [])) (find (is_taken root (writes_of item) item.node.name) names)

-- nothing, or this fault: for private clauses
abbrev pub answer_of : Option Reported → Result (Unit {0}) Reported
answer_of fault = option_map_or (λ t. Err t) fault (Ok tt)

-- the first of these faults
abbrev pub first_fault : List ℕ → List Name → List DueItem → Option Reported
first_fault root names items = slice_get (filter_map (item_fault root names) items) 0

-- the jobs of items, unless one writes another of these names
abbrev pub made_beside : List ℕ → List Name → List DueItem → Result Jobs Reported
made_beside root names items = option_map_or (λ fault. Err fault) (first_fault root names items) (Ok (jobs_of root items))

-- the jobs of items, or their fault
abbrev pub made : List ℕ → Result (List DueItem) Reported → Result Jobs Reported
made root (Ok items) = made_beside root (listings.in_order (names_of items)) items
made root (Err fault) = Err fault

-- what `read_due_tasks` answers: the jobs that a text means below a root, beside a listing; or the first line's fault; or the first
-- task that writes another node's file
abbrev pub AreJobsIn : List ℕ → List Name → List ℕ → Result Jobs Reported → Type 0
AreJobsIn root listing text answer =
    (given : Result (List DueItem) Reported) × LinesMean root listing (lines text) given × (answer ≡ made root given)
