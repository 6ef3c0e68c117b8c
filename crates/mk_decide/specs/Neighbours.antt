-- Neighbours: nodes that clash, with nothing between them.
use Rattle.std.specs.Prelude.{ℕ, ◌<◌, ◌↔◌, List}
use Rattle.std.specs.List.{Contains}
use Rattle.mk_jobs.specs.Jobs.{Jobs, Clash}

-- a node is tied to b: one or several clashes in a row lead from it to b, each to a greater node
pub data TiedTo (jobs : Jobs) (b : ℕ) : ℕ → Type 0 where
  clash : {a : ℕ} → a < b → Clash jobs a b → TiedTo jobs b a
  further : {a c : ℕ} → a < c → Clash jobs a c → TiedTo jobs b c → TiedTo jobs b a

-- two nodes are neighbours: the smaller number stands first, they clash, and no node that the first one clashes with leads on to the second
pub record IsNeighbour (jobs : Jobs) (a b : ℕ) : Type 0 where
  pub rises : a < b
  pub clash : Clash jobs a b
  pub alone : (c : ℕ) → a < c → Clash jobs a c → TiedTo jobs b c → ⊥

-- the pairs are those of all neighbours, in any order
abbrev pub AreNeighbours : Jobs → List (ℕ × ℕ) → Type 0
AreNeighbours jobs pairs = (a b : ℕ) → Contains pairs (a, b) ↔ IsNeighbour jobs a b
