-- For private clauses: a table of bits, a row for each node, that is swept from the last row to the first.
use Rattle.std.specs.Prelude.{ℕ, ◌<◌, ◌≤◌, ◌+◌, ◌*◌, ◌↔◌, List}
use Rattle.mk_index.specs.Bits.{HasBit}
use Rattle.mk_jobs.specs.Jobs.{Jobs, Clash}
use Rattle.mk_decide.specs.Neighbours.{TiedTo}

-- how many words a row has, and how many bits: one for each node of a plan
abbrev pub width : ℕ
width = 313

abbrev pub cells : ℕ
cells = 64 * width

-- row a has the bit of b
pub record HasPair (table : List ℕ) (a b : ℕ) : Type 0 where
  pub inside : b < cells
  pub bit : HasBit table (cells * a + b)

-- the pair of two nodes is there, in the row of the smaller one
pub record HoldsPair (table : List ℕ) (a b : ℕ) : Type 0 where
  pub rising : a < b → HasPair table a b
  pub falling : b < a → HasPair table b a

-- the pairs that are there clash
abbrev pub HasClashes : Jobs → List ℕ → Type 0
HasClashes jobs table = (a b : ℕ) → HasPair table a b → (a < b) × Clash jobs a b

-- the rows have the bits of the greater nodes that clash with theirs
abbrev pub AreClashes : Jobs → List ℕ → Type 0
AreClashes jobs table = (a b : ℕ) → HasPair table a b ↔ ((a < b) × Clash jobs a b)

-- rows below a number have the bits of the greater nodes that clash with theirs, all others those of the nodes that theirs are tied to
pub record AreSwept (jobs : Jobs) (table : List ℕ) (next : ℕ) : Type 0 where
  pub clash : (a b : ℕ) → a < next → HasPair table a b ↔ ((a < b) × Clash jobs a b)
  pub tied : (a b : ℕ) → next ≤ a → HasPair table a b ↔ TiedTo jobs b a

-- the node of row a clashes with one that is tied to b
pub record LeadsOn (table : List ℕ) (a b : ℕ) : Type 0 where
  pub node : ℕ
  pub clash : HasPair table a node
  pub tied : HasPair table node b
