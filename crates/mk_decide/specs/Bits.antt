-- Rows of bits, kept in words of 64: what a block of rows holds inside. Bit n of a row speaks of the node that stands n behind the
-- first node of the block.
use Rattle.std.specs.Prelude.{ℕ, ◌≡◌, ◌<◌, ◌≤◌, ◌↔◌, ◌⊎◌, ◌+◌, ◌*◌, List, length, take, drop, Contains}
use Rattle.mk_index.specs.Bits.{HasBit}
use Rattle.mk_jobs.specs.Jobs.{Jobs, Before, node_count}

-- how many words a row of a block has
abbrev pub row_words : ℕ
row_words = 64

-- how many nodes a block speaks of: a bit for each
abbrev pub block_nodes : ℕ
block_nodes = 64 * row_words

-- the row of a number, where each row has `width` words
abbrev pub row_at : ℕ → List ℕ → ℕ → List ℕ
row_at width words x = take width (drop (x * width) words)

-- a node from the first on is one of these, and bit n speaks of it, or its row has that bit
pub record IsReached (first : ℕ) (words nodes : List ℕ) (n : ℕ) : Type 0 where
  pub node : ℕ
  pub there : Contains nodes node
  pub inside : first ≤ node
  pub bit : (first + n ≡ node) ⊎ HasBit (row_at row_words words node) n

-- a row has just the bits of these nodes and of their rows
abbrev pub Gathers : ℕ → List ℕ → List ℕ → List ℕ → Type 0
Gathers first words nodes row = (n : ℕ) → n < block_nodes → HasBit row n ↔ IsReached first words nodes n

-- of the nodes below a number: the row of each has just the bits of the nodes that are before it
abbrev pub AreRows : Jobs → ℕ → List ℕ → ℕ → Type 0
AreRows jobs first words end = (x : ℕ) → x < end → (n : ℕ) → n < block_nodes → HasBit (row_at row_words words x) n ↔ Before jobs (first + n) x

-- there is such a row for each node
pub record IsFilled (jobs : Jobs) (first : ℕ) (words : List ℕ) : Type 0 where
  pub long : length words ≡ node_count jobs * row_words
  pub rows : AreRows jobs first words (node_count jobs)
