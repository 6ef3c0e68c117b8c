-- Of which nodes a node hears, by bits in rows: for private clauses.
use Rattle.std.specs.Prelude.{ℕ, ◌≡◌, ◌<◌, ◌≤◌, ◌↔◌, ◌⊎◌, ◌*◌, Bool, true, false, List, Contains, get_or, length}
use Rattle.mk_index.specs.Bits.{HasBit}
use Rattle.mk_decide.specs.Bits.{row_at}
use Rattle.mk_jobs.specs.Jobs.{Jobs, IsPrerequisite, is_live, node_count}
use Rattle.mk_jobs.specs.Shape.{IsWellFormed}
use Rattle.mk_missing.specs.Watching.{Carries, RunsAlways, makes_own}

-- n hears of k: k is a prerequisite of it, or of a live node that carries to it
pub data Hears (jobs : Jobs) (k n : ℕ) : Type 0 where
  itself : IsPrerequisite jobs k n → Hears jobs k n
  carried : {j : ℕ} → is_live jobs j ≡ true → IsPrerequisite jobs k j → Carries jobs j n → Hears jobs k n

-- the rows of the nodes below a number have just the bits of the nodes of which each hears
abbrev pub AreHeard : Jobs → ℕ → List ℕ → ℕ → Type 0
AreHeard jobs width words end = (n : ℕ) → n < end → (k : ℕ) → HasBit (row_at width words n) k ↔ Hears jobs k n

-- there is such a row for each node
pub record IsFilled (jobs : Jobs) (width : ℕ) (words : List ℕ) : Type 0 where
  pub wide : node_count jobs ≤ 64 * width
  pub long : length words ≡ node_count jobs * width
  pub rows : AreHeard jobs width words (node_count jobs)

-- k is one of these nodes, or, where news are carried on, has its bit in the row of one that makes its own file
pub record IsNews (jobs : Jobs) (width : ℕ) (words : List ℕ) (carries : Bool) (nodes : List ℕ) (k : ℕ) : Type 0 where
  pub node : ℕ
  pub there : Contains nodes node
  pub bit : (k ≡ node) ⊎ ((carries ≡ true) × (makes_own jobs node ≡ true) × HasBit (row_at width words node) k)

-- the marks of the nodes below a number are those of the nodes that run always
pub record AreAlways (jobs : Jobs) (marks : List Bool) (end : ℕ) : Type 0 where
  pub count : length marks ≡ end
  pub marked : (n : ℕ) → n < end → (get_or marks n false ≡ true) ↔ RunsAlways jobs n

-- what a checker keeps: all that it asks is about its jobs
pub record IsReady (jobs heard : Jobs) (marks : List Bool) (ordered : Jobs) : Type 0 where
  pub shape : IsWellFormed jobs
  pub hearing : heard ≡ jobs
  pub always : AreAlways jobs marks (node_count jobs)
  pub before : ordered ≡ jobs
