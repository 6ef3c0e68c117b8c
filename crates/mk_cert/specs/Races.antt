-- The trace that shows a race.
use Rattle.std.specs.Prelude.{ℕ, ◌≡◌, ◌≢◌, ◌⊎◌, ◌↔◌, ◌++◌, Bool, true, List, [], ◌∷◌, if◌then◌else◌}
use Rattle.mk_path.specs.declared.path.Path.{Path}
use Rattle.mk_path.specs.Texts.{text_of}
use Rattle.mk_index.specs.Uses.{IsOverlap}
use Rattle.mk_jobs.specs.Reaching.{uses_of}
use Rattle.mk_jobs.specs.Jobs.{Jobs, Before, node_count, is_live, is_listed}
use Rattle.mk_proof.specs.Shapes.{Trace, trace_of}
use Rattle.mk_proof.specs.declared.step.Step.{Step}
use Rattle.mk_proof.specs.declared.step.Step.TheVariants.{Skip, Start, Finish}

-- the test says which nodes are before one of the two
abbrev pub ReportsEarly : Jobs → ℕ → ℕ → (ℕ → Bool) → Type 0
ReportsEarly jobs first second early = (n : ℕ) → (early n ≡ true) ↔ (Before jobs n first ⊎ Before jobs n second)

-- how a node passes: a live one starts and finishes, any other is skipped
abbrev pub passing : Jobs → ℕ → List Step
passing jobs n = if is_live jobs n then Start n ∷ Finish n ∷ [] else Skip n ∷ []

-- the early nodes below n pass, in rising order
abbrev pub early_steps : Jobs → (ℕ → Bool) → ℕ → List Step
early_steps jobs early ℕ.zero = []
early_steps jobs early (ℕ.suc n) = early_steps jobs early n ++ (if early n then passing jobs n else [])

-- of the `left` nodes from n on the listed ones, each beside the number of nodes that are left there
abbrev pub falling_times : Jobs → ℕ → ℕ → List (ℕ × ℕ)
falling_times jobs n ℕ.zero = []
falling_times jobs n (ℕ.suc left) =
    if is_listed jobs n then (n, ℕ.suc left) ∷ falling_times jobs (ℕ.suc n) left else falling_times jobs (ℕ.suc n) left

-- the trace of a race: node n of N has the time N - n; all nodes before one of the two pass; then both of these start
abbrev pub race_trace : Jobs → (ℕ → Bool) → ℕ → ℕ → List ℕ → Trace
race_trace jobs early first second path =
    trace_of first second path (falling_times jobs 0 (node_count jobs)) (early_steps jobs early (node_count jobs) ++ Start first ∷ Start second ∷ [])

-- the trace of a race: its nodes are different, and neither is before the other; its path spells an overlap of their paths; and
-- the rest is as above, by a test that says who is before one of them
pub record IsOfRace (jobs : Jobs) (trace : Trace) : Type 0 where
  pub early : ℕ → Bool
  pub path : Path
  pub different : trace.first ≢ trace.second
  pub overlap : IsOverlap (uses_of jobs) trace.first trace.second path
  pub not_before : Before jobs trace.first trace.second → ⊥
  pub not_after : Before jobs trace.second trace.first → ⊥
  pub reports : ReportsEarly jobs trace.first trace.second early
  pub is : trace ≡ race_trace jobs early trace.first trace.second (text_of path)
