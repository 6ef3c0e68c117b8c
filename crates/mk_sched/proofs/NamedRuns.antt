-- Two runs of the jobs with the header named, computed.
use Rattle.std.proofs.Common.{ℕ, ◌≡◌, ◌≢◌, inl, true, false, List, [], ◌∷◌, reverse, refl, ap, sym, arith, slice_index_or, ◌==◌}
use Rattle.std.specs.List.{flat_map}
use Rattle.std.proofs.lemmas.Bool.{false≢true}
use Rattle.mk_jobs.specs.Jobs.{node_count, name_of, prerequisites_of, has_recipe, is_phony, is_listed, reads_of, writes_of, may_read, may_write}
use Rattle.mk_sched.specs.Stores.{AgreesWith}
use Rattle.mk_sched.specs.Events.{Event, phase, is_started, history}
use Rattle.mk_sched.specs.Runs.{IsRun, IsComplete, Agree, RecipesAgree}
use Rattle.mk_sched.specs.Table.{AllowedInTurn, start_from}
use Rattle.mk_sched.specs.Serial.{put_time}
use Rattle.mk_sched.specs.MissingHeader.{gen_h, header_named, header_first, two_sources}
use Rattle.mk_sched.specs.HeaderNamedRuns.{source_between, HeaderNamedRuns}
use Rattle.mk_sched.proofs.Basics.{started_begun}
use Rattle.mk_sched.proofs.ByTable.{runs_by_table}
use Rattle.mk_sched.proofs.Moving.{in_jobs}
use Rattle.mk_sched.proofs.InOrder.{serialised}
use Rattle.mk_sched.proofs.Computed.{each_node, each_passes, later_than, put_last, sources_last, header_named_is_safe}

first_allowed : AllowedInTurn header_named false 1 (start_from two_sources) header_first
unfolding node_count prerequisites_of has_recipe is_phony is_listed reads_of writes_of may_read may_write name_of
first_allowed = (
  (record { in_jobs = omega arith; not_passed = refl; not_running = refl; prerequisites = each_passes _ [] refl }, inl refl),
  (
    (record { in_jobs = omega arith; not_passed = refl; not_running = refl; prerequisites = each_passes _ [] refl }, inl refl),
    (
      (record { in_jobs = omega arith; not_passed = refl; not_running = refl; prerequisites = each_passes _ (0 ∷ []) refl }, refl, refl, omega arith),
      (
        (refl, refl, later_than 1 _ sources_last),
        (
          refl,
          (
            (record { in_jobs = omega arith; not_passed = refl; not_running = refl; prerequisites = each_passes _ (2 ∷ 1 ∷ []) refl }, refl, refl, omega arith),
            (
              (refl, refl, refl),
              (
                (refl, refl, later_than 2 _ (put_last gen_h (103 ∷ []) 2 1 two_sources sources_last (omega arith))),
                (
                  refl,
                  (
                    (record { in_jobs = omega arith; not_passed = refl; not_running = refl; prerequisites = each_passes _ (1 ∷ 3 ∷ []) refl }, inl refl),
                    tt,
                  ),
                ),
              ),
            ),
          ),
        ),
      ),
    ),
  ),
)

second_allowed : AllowedInTurn header_named false 2 (start_from two_sources) source_between
unfolding node_count prerequisites_of has_recipe is_phony is_listed reads_of writes_of may_read may_write name_of
second_allowed = (
  (record { in_jobs = omega arith; not_passed = refl; not_running = refl; prerequisites = each_passes _ [] refl }, inl refl),
  (
    (record { in_jobs = omega arith; not_passed = refl; not_running = refl; prerequisites = each_passes _ (0 ∷ []) refl }, refl, refl, omega arith),
    (
      (record { in_jobs = omega arith; not_passed = refl; not_running = refl; prerequisites = each_passes _ [] refl }, inl refl),
      (
        (refl, refl, λ x file is. let low = sources_last x file is in omega arith),
        (
          refl,
          (
            (record { in_jobs = omega arith; not_passed = refl; not_running = refl; prerequisites = each_passes _ (2 ∷ 1 ∷ []) refl }, refl, refl, omega arith),
            (
              (refl, refl, refl),
              (
                (refl, refl, λ x file is. let low = put_last gen_h (103 ∷ []) 5 1 two_sources sources_last (omega arith) x file is in omega arith),
                (
                  refl,
                  (
                    (record { in_jobs = omega arith; not_passed = refl; not_running = refl; prerequisites = each_passes _ (1 ∷ 3 ∷ []) refl }, inl refl),
                    tt,
                  ),
                ),
              ),
            ),
          ),
        ),
      ),
    ),
  ),
)

first_run : IsRun header_named false 1 two_sources (reverse header_first)
first_run = (runs_by_table header_named false 1 two_sources header_first).1 first_allowed

second_run : IsRun header_named false 2 two_sources (reverse source_between)
second_run = (runs_by_table header_named false 2 two_sources source_between).1 second_allowed

recipes_agree : RecipesAgree (reverse header_first) (reverse source_between)
unfolding node_count
recipes_agree n starts_a starts_b = each_node
    (λ k. is_started (phase (reverse header_first) k) ≡ true → is_started (phase (reverse source_between) k) ≡ true → Agree (reverse (history (reverse header_first) k)) (reverse (history (reverse source_between) k)))
    (λ left right. absurd (false≢true left))
    (λ left right. ((refl, refl), λ same. tt))
    (λ left right. absurd (false≢true left))
    (λ left right. (refl, λ same. ((refl, refl), λ again. tt)))
    (λ left right. absurd (false≢true left))
    n (in_jobs header_named false 1 two_sources (reverse header_first) n first_run (started_begun _ starts_a)) starts_a starts_b

agrees : AgreesWith header_named two_sources
unfolding name_of is_listed node_count
agrees = each_node _ refl refl refl refl refl

first_complete : IsComplete header_named (reverse header_first)
unfolding node_count
first_complete = each_node _ refl refl refl refl refl

second_complete : IsComplete header_named (reverse source_between)
unfolding node_count
second_complete = each_node _ refl refl refl refl refl

-- the time of the newest put
abbrev newest : List Event → ℕ
newest past = slice_index_or (flat_map (λ e. put_time e.act) past) 0 0

different : reverse header_first ≢ reverse source_between
different same = false≢true (sym (ap (λ past. newest past == 3) same))

pub header_named_runs : HeaderNamedRuns
header_named_runs = record {
  agrees = agrees;
  first_run = first_run;
  first_complete = first_complete;
  second_run = second_run;
  second_complete = second_complete;
  recipes_agree = recipes_agree;
  different = different;
  same_outcome = header_named_is_safe.determinate two_sources false 1 2 (reverse header_first) (reverse source_between) agrees first_run second_run first_complete second_complete recipes_agree;
  in_order = serialised header_named false 2 1 two_sources (reverse source_between) header_named_is_safe.valid header_named_is_safe.race_free second_run second_complete sources_last;
}
