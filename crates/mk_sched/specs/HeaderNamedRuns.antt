-- A worked case, computed: two runs of the jobs with the header named, and what the laws say of them.
use Rattle.std.specs.Prelude.{◌≢◌, false, List, [], ◌∷◌, reverse, Some}
use Rattle.mk_jobs.specs.Jobs.{node_count}
use Rattle.mk_sched.specs.Stores.{AgreesWith}
use Rattle.mk_sched.specs.Events.{Skip, Start, Look, Put, Finish, Event}
use Rattle.mk_sched.specs.Runs.{IsRun, IsComplete, RecipesAgree}
use Rattle.mk_sched.specs.Serial.{serial, SerialisedAs}
use Rattle.mk_sched.specs.Laws.{SameOutcome}
use Rattle.mk_sched.specs.MissingHeader.{gen_h, a_o, header_named, header_first, two_sources, by}

-- `a.c` is passed over while the header is made, and the times are later than in `header_first`
abbrev pub source_between : List Event
source_between =
    by 0 Skip ∷ by 1 Start ∷ by 2 Skip ∷ by 1 (Put gen_h (103 ∷ []) 5) ∷ by 1 Finish
    ∷ by 3 Start ∷ by 3 (Look gen_h (Some (103 ∷ []))) ∷ by 3 (Put a_o (111 ∷ 103 ∷ []) 9) ∷ by 3 Finish ∷ by 4 Skip ∷ []

-- both are complete runs from one store, with recipes that agree; they are different, they have the same outcome, and the
-- second, put node after node, is a complete serial run with that outcome
pub record HeaderNamedRuns : Type 0 where
  pub agrees : AgreesWith header_named two_sources
  pub first_run : IsRun header_named false 1 two_sources (reverse header_first)
  pub first_complete : IsComplete header_named (reverse header_first)
  pub second_run : IsRun header_named false 2 two_sources (reverse source_between)
  pub second_complete : IsComplete header_named (reverse source_between)
  pub recipes_agree : RecipesAgree (reverse header_first) (reverse source_between)
  pub different : reverse header_first ≢ reverse source_between
  pub same_outcome : SameOutcome header_named two_sources (reverse header_first) (reverse source_between)
  pub in_order : SerialisedAs header_named false two_sources (reverse source_between) (serial 1 (reverse source_between) (node_count header_named))
