-- The text of a plan: a line for each node in its order.
use Rattle.std.specs.Prelude.{ℕ, List, [], ◌∷◌, ◌++◌, codes, slice_get, option_map, unwrap_or}
use Rattle.std.specs.Fmt.{decimal}
use Rattle.std.specs.List.{enumerate_from, flat_map}
use Rattle.mk_name.specs.Names.{Name}
use Rattle.mk_name.specs.Shown.{line, shown}
use Rattle.mk_jobs.specs.Plan.{Node, Plan}
use Rattle.mk_jobs.specs.declared.maker.Maker.{Maker}
use Rattle.mk_jobs.specs.declared.maker.Maker.TheVariants as makers

-- how it is reported what makes a node
abbrev pub kind_word : Maker → List ℕ
kind_word makers.Rule = codes "recipe"
kind_word makers.Inferred = codes "inferred"
kind_word makers.Default = codes "default"
kind_word makers.Nothing = codes "plain"

-- the name of the node with this number
abbrev pub name_at : List Node → ℕ → Name
name_at nodes number = unwrap_or (option_map (λ node. node.name) (slice_get nodes number)) []

-- a name behind a space
abbrev pub behind_space : Name → List ℕ
behind_space name = codes " " ++ shown name

-- the names of the prerequisites behind a colon, where there are any
abbrev pub needs : List Node → List ℕ → List ℕ
needs nodes [] = []
needs nodes (first ∷ rest) = codes " :" ++ flat_map (λ number. behind_space (name_at nodes number)) (first ∷ rest)

-- the line of a node: its number, what makes it, its name and its prerequisites
abbrev pub node_line : List Node → ℕ → Node → List ℕ
node_line nodes number node =
    line (decimal number ++ codes " " ++ kind_word node.maker ++ behind_space node.name ++ needs nodes node.prerequisites)

-- the lines of some of the nodes, from the first on
abbrev pub lines_of : List Node → List Node → List ℕ
lines_of nodes some = flat_map (λ numbered. node_line nodes numbered.0 numbered.1) (enumerate_from 0 some)

-- the lines of all nodes
abbrev pub plan_text : Plan → List ℕ
plan_text plan = lines_of plan.nodes plan.nodes
