-- What `plan` answers.
use Rattle.std.specs.Prelude.{◌≡◌, ◌<◌, ℕ, false, List, [], ◌∷◌, map, length, nat_eq, get_or, IsTrue, Option, Some, None, Result, Ok, Err}
use Rattle.mk_name.specs.Names.{Name, same_name, has}
use Rattle.mk_name.specs.Reported.{Reported}
use Rattle.mk_name.specs.declared.fault.Kind.{Kind}
use Rattle.mk_name.specs.declared.fault.Kind.TheVariants as kinds
use Rattle.mk_name.specs.declared.fault.Source.TheVariants as sources
use Rattle.mk_rules.specs.Book.{Book, default_goal, is_phony}
use Rattle.mk_graph.specs.Graph.{IsNode, HasNoCycle, IsSerialOrder, IsCycle, HasMoreThan}
use Rattle.mk_graph.specs.Least.{upto}
use Rattle.mk_graph.specs.Makers.{maker_of, needs, is_unmade}
use Rattle.mk_jobs.specs.Plan.{Node, Plan, edge_limit, node_limit}

-- a fault of the graph
abbrev pub graph_fault : Kind → List Name → Reported
graph_fault kind names = record { kind = kind; source = sources.Graph; place = 0; names = names }

abbrev pub goal_list : Option Name → List Name
goal_list None = []
goal_list (Some goal) = goal ∷ []

-- the goals that are given, or else the default goal
abbrev pub goals_of : Book → List Name → List Name
goals_of book [] = goal_list (default_goal book.rules)
goals_of book (g ∷ gs) = g ∷ gs

-- more than 20,000 names or 200,000 edges
abbrev pub IsTooLarge : Book → List Name → List Name → Type 0
IsTooLarge book listing goals = HasMoreThan same_name (needs book listing) goals node_limit edge_limit

-- the least of the names in the graph that nothing makes
pub record IsLeastUnmade (book : Book) (listing goals : List Name) (name : Name) : Type 0 where
  pub node : IsNode same_name (needs book listing) goals name
  pub unmade : IsTrue (is_unmade book listing name)
  pub least : (x : Name) → IsNode same_name (needs book listing) goals x → IsTrue (is_unmade book listing x) → IsTrue (upto name x)

-- each name in the graph is made or stands by itself
abbrev pub AllMade : Book → List Name → List Name → Type 0
AllMade book listing goals = (x : Name) → IsNode same_name (needs book listing) goals x → is_unmade book listing x ≡ false

-- a node holds its name's prerequisites by their numbers, its maker, and whether it is phony and listed
pub record IsNodeOf (book : Book) (listing names : List Name) (node : Node) : Type 0 where
  pub prerequisites : map (λ k. get_or names k []) node.prerequisites ≡ needs book listing node.name
  pub maker : node.maker ≡ maker_of book listing node.name
  pub phony : node.phony ≡ is_phony book node.name
  pub listed : node.listed ≡ has same_name listing node.name

-- the nodes stand in serial order, each after all that it needs
pub record IsPlan (book : Book) (listing goals : List Name) (plan : Plan) : Type 0 where
  pub order : IsSerialOrder same_name (needs book listing) goals (map (λ n. n.name) plan.nodes)
  pub no_cycle : HasNoCycle same_name (needs book listing) goals
  pub nodes : (i : ℕ) (d : Node) → i < length plan.nodes → IsNodeOf book listing (map (λ n. n.name) plan.nodes) (get_or plan.nodes i d)
  pub rising : (i p : ℕ) (d : Node) → i < length plan.nodes → IsTrue (has nat_eq (get_or plan.nodes i d).prerequisites p) → p < i
  pub waits : plan.wait_uses ≡ book.wait_uses

-- what comes for some goals: first a graph that is too large, then a name that nothing makes, then a cycle, else a plan
pub data Comes (book : Book) (listing goals : List Name) : Result Plan Reported → Type 0 where
  too_large : IsTooLarge book listing goals → Comes book listing goals (Err (graph_fault kinds.GraphTooLarge []))
  no_rule : (name : Name) → (IsTooLarge book listing goals → ⊥) → IsLeastUnmade book listing goals name → Comes book listing goals (Err (graph_fault kinds.NoRule (name ∷ [])))
  cycle : (names : List Name) → (IsTooLarge book listing goals → ⊥) → AllMade book listing goals → IsCycle same_name upto (needs book listing) goals names → Comes book listing goals (Err (graph_fault kinds.Cycle names))
  planned : (plan : Plan) → (IsTooLarge book listing goals → ⊥) → AllMade book listing goals → IsPlan book listing goals plan → Comes book listing goals (Ok plan)

-- without a goal there is nothing to plan
abbrev pub IsAnswer : Book → List Name → List Name → Result Plan Reported → Type 0
IsAnswer book listing [] answer = answer ≡ Err (graph_fault kinds.NoGoal [])
IsAnswer book listing (g ∷ gs) answer = Comes book listing (g ∷ gs) answer
