-- What `attach` answers: the jobs of a plan and its footprints, or the first node at fault.
use Rattle.std.specs.Prelude.{◌≡◌, ℕ, true, List, [], ◌∷◌, ◌++◌, Option, None, Some, Result, Ok, Err, find, map, slice_get, unwrap_or, if◌then◌else◌}
use Rattle.std.specs.List.{enumerate_from, filter_map}
use Rattle.std.specs.Option.{option_map, option_map_or}
use Rattle.mk_name.specs.Names.{Name, has, same_name}
use Rattle.mk_name.specs.Reported.{Reported}
use Rattle.mk_name.specs.declared.fault.Kind.{Kind}
use Rattle.mk_name.specs.declared.fault.Kind.TheVariants.{MissingFootprint, WritesTarget}
use Rattle.mk_name.specs.declared.fault.Source.TheVariants as sources
use Rattle.mk_text.specs.Listing.{in_order}
use Rattle.mk_path.specs.Taken.{is_taken}
use Rattle.mk_jobs.specs.Plan.{Node, Plan, names_of}
use Rattle.mk_foot.specs.Footprints.{Footprint, Footprints, footprint_at, no_footprint}
use Rattle.mk_jobs.specs.Jobs.{Jobs}
use Rattle.mk_jobs.specs.Recipes.{is_live_node}

-- a fault of the node with a number
abbrev pub reported : Kind → ℕ → List Name → Reported
reported kind number names = record { kind = kind; source = sources.Jobs; place = number; names = names }

-- the names that belong to a recipe: those of nodes and of targets of target rules, rising, each once
abbrev pub owned_names : List Name → List Name → List Name
owned_names names targets = in_order (names ++ targets)

-- each of the names stands in the list
abbrev pub HasAll : List Name → List Name → Type 0
HasAll list names = (x : Name) → has same_name names x ≡ true → has same_name list x ≡ true

-- the fault of a live recipe: no line names its target; or it writes what belongs to others, and the least name is reported
abbrev pub recipe_fault : List ℕ → List Name → ℕ → Name → Option Footprint → Option Reported
recipe_fault root owned number own None = Some (reported MissingFootprint number (own ∷ []))
recipe_fault root owned number own (Some footprint) =
    option_map (λ x. reported WritesTarget number (own ∷ x ∷ [])) (find (is_taken root footprint.writes own) owned)

-- the fault of a node with its number: only a live recipe has one
abbrev pub node_fault : List Name → Footprints → ℕ × Node → Option Reported
node_fault owned footprints placed =
    if is_live_node placed.1 then recipe_fault footprints.root owned placed.0 placed.1.name (footprint_at footprints placed.1.name) else None

-- the first of these faults
abbrev pub first_fault : Plan → List Name → Footprints → Option Reported
first_fault plan owned footprints = slice_get (filter_map (node_fault owned footprints) (enumerate_from 0 plan.nodes)) 0

-- what a node reads and writes: its footprint where it is live, and else nothing
abbrev pub footprint_of : Footprints → Node → Footprint
footprint_of footprints node = if is_live_node node then unwrap_or (footprint_at footprints node.name) no_footprint else no_footprint

-- the jobs of a plan and footprints
abbrev pub jobs_with : Footprints → Plan → Jobs
jobs_with footprints plan = record {
  plan = plan;
  root = footprints.root;
  reads = map (λ (node : Node). (footprint_of footprints node).reads) plan.nodes;
  writes = map (λ (node : Node). (footprint_of footprints node).writes) plan.nodes;
}

-- the jobs, or the first fault, where these names belong to recipes
abbrev pub attached_beside : List Name → Plan → Footprints → Result Jobs Reported
attached_beside owned plan footprints = option_map_or (λ fault. Err fault) (first_fault plan owned footprints) (Ok (jobs_with footprints plan))

-- what `attach` answers for a plan and the targets of target rules
abbrev pub attached : Plan → List Name → Footprints → Result Jobs Reported
attached plan targets footprints = attached_beside (owned_names (names_of plan.nodes) targets) plan footprints

-- what one node gives: what it reads and writes, or its fault
abbrev pub node_answer : List Name → Footprints → ℕ × Node → Result Footprint Reported
node_answer owned footprints placed = option_map_or (λ fault. Err fault) (node_fault owned footprints placed) (Ok (footprint_of footprints placed.1))

-- what a live node with a footprint gives
abbrev pub live_answer : List ℕ → List Name → ℕ → Name → Footprint → Result Footprint Reported
live_answer root owned number own footprint = option_map_or (λ fault. Err fault) (recipe_fault root owned number own (Some footprint)) (Ok footprint)
