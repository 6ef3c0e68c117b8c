-- What a walk keeps of the nodes that have its first node before them.
use Rattle.std.specs.Prelude.{ℕ, ◌≡◌, ◌<◌, ◌↔◌, Bool, true, false, List, length, Option, Some, None, get_or}
use Rattle.mk_jobs.specs.Jobs.{Jobs, Before, node_count}

-- of the nodes below a number, those are marked that have a before them
abbrev pub AreMarkedBehind : Jobs → ℕ → List Bool → ℕ → Type 0
AreMarkedBehind jobs a marks end = (x : ℕ) → x < end → (get_or marks x false ≡ true) ↔ Before jobs a x

-- there is a mark for each node; and where there is a first node, those are marked that have it before them
abbrev pub AreMarks : Jobs → Option ℕ → List Bool → Type 0
AreMarks jobs None marks = length marks ≡ node_count jobs
AreMarks jobs (Some a) marks = (length marks ≡ node_count jobs) × AreMarkedBehind jobs a marks (node_count jobs)
