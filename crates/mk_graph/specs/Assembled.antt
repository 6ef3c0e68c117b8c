-- The nodes of a plan, from the graph by numbers.
use Rattle.std.specs.Prelude.{◌≡◌, ℕ, ◌<◌, List, map, length, get_or, Vec}
use Rattle.std.specs.Global.{Global}
use Rattle.mk_name.specs.Names.{Name, same_name, has}
use Rattle.mk_rules.specs.Book.{Book, is_phony}
use Rattle.mk_graph.specs.Makers.{maker_of}
use Rattle.mk_jobs.specs.Numbered.{name_at}
use Rattle.mk_jobs.specs.Plan.{Node, Plan}
use Rattle.mk_graph.specs.Rows.{row}

-- the node of a name with these prerequisites
abbrev pub node_of : Book → List Name → Name → List ℕ → Node
node_of book listing t prerequisites = record { name = t; prerequisites = prerequisites; maker = maker_of book listing t; phony = is_phony book t; listed = has same_name listing t }

-- each number has its place in the order beside it
abbrev pub IsNumbering : List ℕ → List ℕ → Type 0
IsNumbering order places = (i : ℕ) → i < length order → get_or places (get_or order i 0) 0 ≡ i

-- the plan of these numbers in this order
pub record IsAssembled (book : Book) (listing names : List Name) (rows : List (Vec ℕ Global)) (order : List ℕ) (plan : Plan) : Type 0 where
  pub places : List ℕ
  pub placed : IsNumbering order places
  pub nodes : plan.nodes ≡ map (λ n. node_of book listing (name_at names n) (map (λ p. get_or places p 0) (row rows n))) order
  pub waits : plan.wait_uses ≡ book.wait_uses
