-- What the walk of a graph answers.
use Rattle.std.specs.Prelude.{ℕ, List, nat_eq, IsTrue}
use Rattle.mk_name.specs.Names.{has}
use Rattle.mk_graph.specs.Graph.{IsNode, IsSerialOrder, HasNoCycle}
use Rattle.mk_graph.specs.Rows.{IsRing, StandAfterNeeds}
use Rattle.mk_graph.specs.declared.serial.Walked.{Walked}
use Rattle.mk_graph.specs.declared.serial.Walked.TheVariants.{Order, Ring}

-- the serial order of a graph without a cycle: its nodes, each after all that it needs
pub record IsOrder (needs : ℕ → List ℕ) (goals order : List ℕ) : Type 0 where
  pub serial : IsSerialOrder nat_eq needs goals order
  pub no_cycle : HasNoCycle nat_eq needs goals
  pub rising : StandAfterNeeds needs order
  pub nodes : (n : ℕ) → IsTrue (has nat_eq order n) → IsNode nat_eq needs goals n

-- the serial order, or a ring of nodes that need one another
abbrev pub IsWalked : (ℕ → List ℕ) → List ℕ → Walked → Type 0
IsWalked needs goals (Order order) = IsOrder needs goals order.items
IsWalked needs goals (Ring ring) = IsRing needs goals ring.items
