-- Jobs: a plan, and what each recipe may read and write. Nodes go by their numbers, their places in serial order.
use Rattle.std.specs.Prelude.{ℕ, ◌≡◌, ◌≢◌, ◌<◌, ◌⊎◌, ◌&&◌, ◌||◌, not, Bool, true, false, List, [], ◌∷◌, length, slice_get, unwrap_or, Contains, Option, Some, None}
use Rattle.mk_name.specs.Names.{Name}
use Rattle.mk_path.specs.declared.path.Path.{Path}
use Rattle.mk_path.specs.Paths.{covered}
use Rattle.mk_jobs.specs.Plan as plans
use Rattle.mk_jobs.specs.Plan.{Plan, Node}
use Rattle.mk_jobs.specs.declared.maker.Maker.{Maker}
use Rattle.mk_jobs.specs.declared.maker.Maker.TheVariants.{Rule, Inferred, Default, Nothing}

-- a plan, the root that relative names stand below, and for each node the paths that its footprints let it read and write
pub record Jobs : Type 0 where
  pub plan : Plan
  pub root : List ℕ
  pub reads : List (List Path)
  pub writes : List (List Path)

-- how many nodes there are
unfoldable pub node_count : Jobs → ℕ
node_count jobs = length jobs.plan.nodes

-- the node of a number
abbrev pub node_at : Jobs → ℕ → Node
node_at jobs n = plans.node_at jobs.plan.nodes n

-- a node's name
unfoldable pub name_of : Jobs → ℕ → Name
name_of jobs n = (node_at jobs n).name

-- the numbers of a node's prerequisites, in the rule's order
unfoldable pub prerequisites_of : Jobs → ℕ → List ℕ
prerequisites_of jobs n = (node_at jobs n).prerequisites

-- this maker has a recipe
abbrev pub has_commands : Maker → Bool
has_commands Rule = true
has_commands Inferred = true
has_commands Default = true
has_commands Nothing = false

-- a node has a recipe: something makes it
unfoldable pub has_recipe : Jobs → ℕ → Bool
has_recipe jobs n = has_commands (node_at jobs n).maker

-- a node is phony
unfoldable pub is_phony : Jobs → ℕ → Bool
is_phony jobs n = (node_at jobs n).phony

-- the listing has a node's name
unfoldable pub is_listed : Jobs → ℕ → Bool
is_listed jobs n = (node_at jobs n).listed

-- what makes a node's name
unfoldable pub maker_of : Jobs → ℕ → Maker
maker_of jobs n = (node_at jobs n).maker

-- the number is that of the node with this name; or there is none, and no node has it
abbrev pub IsNumberOf : Jobs → Name → Option ℕ → Type 0
IsNumberOf jobs x (Some n) = (n < node_count jobs) × (name_of jobs n ≡ x)
IsNumberOf jobs x None = (n : ℕ) → n < node_count jobs → name_of jobs n ≢ x

-- the paths that a node's footprints read
unfoldable pub reads_of : Jobs → ℕ → List Path
reads_of jobs n = unwrap_or (slice_get jobs.reads n) []

-- the paths that a node's footprints write
unfoldable pub writes_of : Jobs → ℕ → List Path
writes_of jobs n = unwrap_or (slice_get jobs.writes n) []

-- the list has no element
abbrev pub is_empty : List ℕ → Bool
is_empty [] = true
is_empty (x ∷ xs) = false

-- idle, by whether a node has a recipe, is listed and is phony, and by its prerequisites: the recipe can never run, since its
-- target is there, is not phony and has no prerequisite
abbrev pub idle_by : Bool → Bool → Bool → List ℕ → Bool
idle_by recipe listed phony prerequisites = recipe && listed && not phony && is_empty prerequisites

-- live, by the same: a recipe that is not idle
abbrev pub live_by : Bool → Bool → Bool → List ℕ → Bool
live_by recipe listed phony prerequisites = recipe && not (idle_by recipe listed phony prerequisites)

-- a node's recipe is idle
abbrev pub is_idle : Jobs → ℕ → Bool
is_idle jobs n = idle_by (has_recipe jobs n) (is_listed jobs n) (is_phony jobs n) (prerequisites_of jobs n)

-- a node has a recipe that is live
abbrev pub is_live : Jobs → ℕ → Bool
is_live jobs n = live_by (has_recipe jobs n) (is_listed jobs n) (is_phony jobs n) (prerequisites_of jobs n)

-- a node may read a name: it is live, and its reads cover the name
unfoldable pub may_read : Jobs → ℕ → Name → Bool
may_read jobs n x = is_live jobs n && covered jobs.root (reads_of jobs n) x

-- a node may write a name: it is live, and its writes cover the name
unfoldable pub may_write : Jobs → ℕ → Name → Bool
may_write jobs n x = is_live jobs n && covered jobs.root (writes_of jobs n) x

-- a node may touch a name: read it or write it
abbrev pub may_touch : Jobs → ℕ → Name → Bool
may_touch jobs n x = may_read jobs n x || may_write jobs n x

-- n needs p at once: an edge goes from p to n
abbrev pub IsPrerequisite : Jobs → ℕ → ℕ → Type 0
IsPrerequisite jobs p n = Contains (prerequisites_of jobs n) p

-- a is before b: one or several edges in a row lead from a to b
pub data Before (jobs : Jobs) (a : ℕ) : ℕ → Type 0 where
  edge : {b : ℕ} → IsPrerequisite jobs a b → Before jobs a b
  further : {b c : ℕ} → Before jobs a b → IsPrerequisite jobs b c → Before jobs a c

-- two nodes clash on a name: they are different, both may touch it, and at least one may write it
pub record ClashOn (jobs : Jobs) (a b : ℕ) (x : Name) : Type 0 where
  pub different : a ≢ b
  pub first : may_touch jobs a x ≡ true
  pub second : may_touch jobs b x ≡ true
  pub written : may_write jobs a x || may_write jobs b x ≡ true

-- two nodes clash: they clash on some name
abbrev pub Clash : Jobs → ℕ → ℕ → Type 0
Clash jobs a b = (x : Name) × ClashOn jobs a b x

-- race-free: of any two nodes that clash, one is before the other
abbrev pub IsRaceFree : Jobs → Type 0
IsRaceFree jobs = (a b : ℕ) → Clash jobs a b → Before jobs a b ⊎ Before jobs b a

-- valid: prerequisites have smaller numbers, and nobody may write a node's name but that node
pub record IsValid (jobs : Jobs) : Type 0 where
  pub smaller : (n p : ℕ) → IsPrerequisite jobs p n → p < n
  pub own : (n m : ℕ) → m < node_count jobs → may_write jobs n (name_of jobs m) ≡ true → n ≡ m
