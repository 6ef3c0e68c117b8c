-- What a plan holds: the nodes of the graph in serial order, and how often `.WAIT` was used.
use Rattle.std.specs.Prelude.{◌≡◌, ◌<◌, ◌≤◌, ℕ, Bool, false, List, [], map, length, get_or, nat_eq, slice_get, unwrap_or, IsTrue}
use Rattle.std.specs.List.{All, sum_by}
use Rattle.std.specs.Option.{option_map}
use Rattle.mk_name.specs.Names.{Name, has, same_name, IsDistinct}
use Rattle.mk_jobs.specs.Numbered.{name_at, number_of}
use Rattle.mk_jobs.specs.declared.maker.Maker.{Maker}
use Rattle.mk_jobs.specs.declared.maker.Maker.TheVariants.{Nothing}

-- a node: its name, the numbers of its prerequisites in the rule's order, what makes it, whether it is phony,
-- whether the listing has it
pub record Node : Type 0 where
  pub name : Name
  pub prerequisites : List ℕ
  pub maker : Maker
  pub phony : Bool
  pub listed : Bool

-- a node whose name has a number in a table
pub record NumberedNode : Type 0 where
  pub name : ℕ
  pub prerequisites : List ℕ
  pub maker : Maker
  pub phony : Bool
  pub listed : Bool

-- nodes with the names that have their numbers
abbrev pub with_name : List Name → NumberedNode → Node
with_name names node = record { name = name_at names node.name; prerequisites = node.prerequisites; maker = node.maker; phony = node.phony; listed = node.listed }

abbrev pub with_names : List Name → List NumberedNode → List Node
with_names names nodes = map (with_name names) nodes

-- each number is that of a name
abbrev pub HaveNames : List Name → List NumberedNode → Type 0
HaveNames names nodes = All (λ node. node.name < length names) nodes

-- a node's number is its place
pub record Plan : Type 0 where
  pub nodes : List Node
  pub wait_uses : ℕ

-- what stands past the last node: nothing that could act
abbrev pub nobody : Node
nobody = record { name = []; prerequisites = []; maker = Nothing; phony = false; listed = false }

-- the node with a number
abbrev pub node_at : List Node → ℕ → Node
node_at nodes n = unwrap_or (slice_get nodes n) nobody

-- the names of the nodes
abbrev pub names_of : List Node → List Name
names_of nodes = map (λ (n : Node). n.name) nodes

-- the edges that lead to these nodes
abbrev pub edge_count : List Node → ℕ
edge_count nodes = sum_by (λ (n : Node). length n.prerequisites) nodes

-- a graph of more nodes, or of more edges, has no plan
abbrev pub node_limit : ℕ
node_limit = 20000

abbrev pub edge_limit : ℕ
edge_limit = 200000

-- each node stands after what it needs
abbrev pub NeedsStandBefore : List Node → Type 0
NeedsStandBefore nodes = (i p : ℕ) (d : Node) → i < length nodes → IsTrue (has nat_eq (get_or nodes i d).prerequisites p) → p < i

-- the place of a name's node stands beside the number of the name, and a name without a number is no node's
abbrev pub AreFoundBy : List Node → List Name → List ℕ → Type 0
AreFoundBy nodes names places = (x : Name) → number_of (names_of nodes) x ≡ option_map (λ n. get_or places n 0) (number_of names x)

-- the nodes and edges are few, no two nodes have one name, each is found by the number of its name, and each stands after
-- what it needs
pub record IsOrdered (nodes : List Node) (names : List Name) (places : List ℕ) : Type 0 where
  pub few : length nodes ≤ node_limit
  pub few_edges : edge_count nodes ≤ edge_limit
  pub distinct : IsDistinct same_name (names_of nodes)
  pub rising : NeedsStandBefore nodes
  pub placed : length places ≡ length names
  pub found : AreFoundBy nodes names places
