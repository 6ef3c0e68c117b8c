-- One run that is enough, and two that are not, computed.
use Rattle.std.proofs.Common.{◌≡◌, inl, true, false, List, [], ◌∷◌, reverse, Option, Some, None, refl, sym, subst, arith}
use Rattle.std.proofs.lemmas.Bool.{false≢true}
use Rattle.mk_name.specs.Names.{Name, same_name}
use Rattle.mk_path.specs.declared.path.Path.{Path}
use Rattle.mk_jobs.specs.Jobs.{IsRaceFree, node_count, name_of, prerequisites_of, has_recipe, is_phony, is_listed, reads_of, writes_of, may_read, may_write, may_touch}
use Rattle.mk_sched.specs.Stores.{Bytes, Store, bytes_of}
use Rattle.mk_sched.specs.Events.{Put, phase, is_started, history, store_after}
use Rattle.mk_sched.specs.Runs.{Agree, RecipesAgree}
use Rattle.mk_sched.specs.Schedules.{IsAfterOld, IsSchedule}
use Rattle.mk_sched.specs.Table.{AllowedInTurn, start_from}
use Rattle.mk_sched.specs.MissingHeader.{gen_sh, gen_h, a_c, a_o, file, header_jobs, missing_header, header_named, two_sources, object_first, by}
use Rattle.mk_sched.specs.HeaderNamedRuns.{source_between}
use Rattle.mk_sched.specs.OneRunCases.{in_one_instant, OneRunIsEnough, header_unseen, no_header_yet, header_before, FoldersAreNoLooks, b_h, header_followed, RacesLeave}
use Rattle.mk_sched.proofs.Basics.{split, same_name-true, started_begun}
use Rattle.mk_sched.proofs.ByTable.{runs_by_table}
use Rattle.mk_sched.proofs.Moving.{in_jobs}
use Rattle.mk_sched.proofs.Computed.{each_node, each_passes, later_than, put_last, sources_last, both_orders, header_named_is_safe, header_race_free, header_valid}
use Rattle.mk_sched.proofs.NamedRuns.{header_named_runs}
use Rattle.mk_sched.proofs.Staying.{agree_all_so_far, run_is_schedule}

-- what is put at 2 is later than the sources
after_sources : (store : Store) → IsAfterOld two_sources store 2
after_sources store x file opens is = later_than 1 two_sources sources_last x file opens

instant_schedule : IsSchedule header_named false 1 two_sources (reverse in_one_instant)
unfolding node_count prerequisites_of has_recipe is_phony is_listed name_of
instant_schedule = (
  (
    (
      (
        (
          (
            (
              (
                (
                  (
                    tt,
                    record { ready = record { in_jobs = omega arith; waits = refl; prerequisites = each_passes _ ([]) refl }; fresh = refl },
                  ),
                  record { ready = record { in_jobs = omega arith; waits = refl; prerequisites = each_passes _ ([]) refl }; fresh = refl },
                ),
                record { ready = record { in_jobs = omega arith; waits = refl; prerequisites = each_passes _ (0 ∷ []) refl }; stale = refl; room = omega arith },
              ),
              (refl, after_sources _),
            ),
            refl,
          ),
          record { ready = record { in_jobs = omega arith; waits = refl; prerequisites = each_passes _ (2 ∷ 1 ∷ []) refl }; stale = refl; room = omega arith },
        ),
        (refl, refl),
      ),
      (refl, after_sources _),
    ),
    refl,
  ),
  record { ready = record { in_jobs = omega arith; waits = refl; prerequisites = each_passes _ (1 ∷ 3 ∷ []) refl }; fresh = refl },
)

instant_agree : RecipesAgree (reverse in_one_instant) (reverse source_between)
unfolding node_count
instant_agree n starts_a starts_b = each_node
    (λ k. is_started (phase (reverse in_one_instant) k) ≡ true → is_started (phase (reverse source_between) k) ≡ true → Agree (reverse (history (reverse in_one_instant) k)) (reverse (history (reverse source_between) k)))
    (λ left right. absurd (false≢true left))
    (λ left right. ((refl, refl), λ same. tt))
    (λ left right. absurd (false≢true left))
    (λ left right. (refl, λ same. ((refl, refl), λ again. tt)))
    (λ left right. absurd (false≢true left))
    n (in_jobs header_named false 2 two_sources (reverse source_between) n header_named_runs.second_run (started_begun _ starts_b)) starts_a starts_b

pub one_run_is_enough : OneRunIsEnough
unfolding node_count prerequisites_of has_recipe is_phony is_listed reads_of writes_of may_read may_write name_of
one_run_is_enough = record {
  valid = header_named_is_safe.valid;
  race_free = header_named_is_safe.race_free;
  agrees = header_named_runs.agrees;
  seen = instant_schedule;
  seen_stays = refl;
  seen_complete = each_node _ refl refl refl refl refl;
  no_run = λ run. let less = run.0.0.1.newer gen_h (record { bytes = 103 ∷ []; time = 2 }) refl in omega (arith, less);
  schedule = ((run_is_schedule header_named false 2 two_sources (reverse source_between)).0 header_named_runs.second_run).0;
  complete = header_named_runs.second_complete;
  recipes_agree = instant_agree;
  agree_so_far = agree_all_so_far _ _ instant_agree;
}

-- what the two recipes may touch is apart, as long as `a.o` reads `a.c` alone
apart : (x : Name) → may_touch header_unseen 1 x ≡ true → may_touch header_unseen 3 x ≡ true → ⊥
unfolding prerequisites_of has_recipe is_phony is_listed reads_of writes_of may_read may_write
apart x one three = split (same_name gen_sh x)
    (λ same. false≢true (subst (λ y. may_touch header_unseen 3 y ≡ true) (sym (same_name-true gen_sh x same)) three))
    (λ other. split (same_name gen_h x)
    (λ same. false≢true (subst (λ y. may_touch header_unseen 3 y ≡ true) (sym (same_name-true gen_h x same)) three))
    (λ neither. cc (rw (other, neither) at one)))

unseen_race_free : IsRaceFree header_unseen
unseen_race_free = header_race_free (2 ∷ []) (file a_c ∷ []) (λ clash. absurd (apart clash.0 clash.1.first clash.1.second)) (λ clash. absurd (apart clash.0 clash.1.second clash.1.first))

yet_allowed : AllowedInTurn header_unseen false 1 (start_from two_sources) no_header_yet
unfolding node_count prerequisites_of has_recipe is_phony is_listed reads_of writes_of may_read may_write name_of
yet_allowed = (
  (record { in_jobs = omega arith; not_passed = refl; not_running = refl; prerequisites = each_passes _ [] refl }, inl refl),
  (
    (record { in_jobs = omega arith; not_passed = refl; not_running = refl; prerequisites = each_passes _ [] refl }, inl refl),
    (
      (record { in_jobs = omega arith; not_passed = refl; not_running = refl; prerequisites = each_passes _ (2 ∷ []) refl }, refl, refl, omega arith),
      (
        (refl, refl, refl),
        (
          (refl, refl, later_than 1 _ sources_last),
          (
            refl,
            (
              (record { in_jobs = omega arith; not_passed = refl; not_running = refl; prerequisites = each_passes _ (0 ∷ []) refl }, refl, refl, omega arith),
              (
                (refl, refl, later_than 2 _ (put_last a_o (111 ∷ []) 2 1 two_sources sources_last (omega arith))),
                (
                  refl,
                  (
                    (record { in_jobs = omega arith; not_passed = refl; not_running = refl; prerequisites = each_passes _ (1 ∷ 3 ∷ []) refl }, inl refl),
                    tt,
                  ),
                ),
              ),
            ),
          ),
        ),
      ),
    ),
  ),
)

-- whatever the two looks are at, and whatever `a.o` may read, this is a schedule
before_schedule : (reads : List Path) (x y : Name) (seen found : Option Bytes)
    → seen ≡ bytes_of (store_after two_sources (by 1 (Put gen_h (103 ∷ []) 2) ∷ []) x) → found ≡ bytes_of (store_after two_sources (by 1 (Put gen_h (103 ∷ []) 2) ∷ []) y)
    → IsSchedule (header_jobs (2 ∷ []) reads) false 1 two_sources (reverse (header_before x seen y found))
unfolding node_count prerequisites_of has_recipe is_phony is_listed name_of
before_schedule reads x y seen found sees finds = (
  (
    (
      (
        (
          (
            (
              (
                (
                  (
                    (
                      tt,
                      record { ready = record { in_jobs = omega arith; waits = refl; prerequisites = each_passes _ ([]) refl }; fresh = refl },
                    ),
                    record { ready = record { in_jobs = omega arith; waits = refl; prerequisites = each_passes _ ([]) refl }; fresh = refl },
                  ),
                  record { ready = record { in_jobs = omega arith; waits = refl; prerequisites = each_passes _ (0 ∷ []) refl }; stale = refl; room = omega arith },
                ),
                (refl, after_sources _),
              ),
              refl,
            ),
            record { ready = record { in_jobs = omega arith; waits = refl; prerequisites = each_passes _ (2 ∷ []) refl }; stale = refl; room = omega arith },
          ),
          (refl, sees),
        ),
        (refl, finds),
      ),
      (refl, after_sources _),
    ),
    refl,
  ),
  record { ready = record { in_jobs = omega arith; waits = refl; prerequisites = each_passes _ (1 ∷ 3 ∷ []) refl }; fresh = refl },
)

pub folders_are_no_looks : FoldersAreNoLooks
unfolding node_count name_of prerequisites_of has_recipe is_phony is_listed reads_of writes_of may_read may_write
folders_are_no_looks = record {
  valid = header_valid (2 ∷ []) (file a_c ∷ []) refl;
  race_free = unseen_race_free;
  agrees = each_node _ refl refl refl refl refl;
  seen = (runs_by_table header_unseen false 1 two_sources no_header_yet).1 yet_allowed;
  seen_complete = each_node _ refl refl refl refl refl;
  schedule = before_schedule (file a_c ∷ []) a_c gen_h (Some (97 ∷ [])) (Some (103 ∷ [])) refl refl;
  complete = each_node _ refl refl refl refl refl;
  disagree = λ agree. ((agree 3 refl refl).1 refl).0;
  leaves = refl;
}

followed_agree : RecipesAgree (reverse object_first) (reverse header_followed)
unfolding node_count
followed_agree n starts_a starts_b = each_node
    (λ k. is_started (phase (reverse object_first) k) ≡ true → is_started (phase (reverse header_followed) k) ≡ true → Agree (reverse (history (reverse object_first) k)) (reverse (history (reverse header_followed) k)))
    (λ left right. absurd (false≢true left))
    (λ left right. ((refl, refl), λ same. tt))
    (λ left right. absurd (false≢true left))
    (λ left right. (refl, λ same. cc))
    (λ left right. absurd (false≢true left))
    n (in_jobs missing_header false 1 two_sources (reverse object_first) n both_orders.object_run (started_begun _ starts_a)) starts_a starts_b

pub races_leave : RacesLeave
unfolding node_count name_of prerequisites_of has_recipe is_phony is_listed reads_of writes_of may_read may_write
races_leave = record {
  valid = header_valid (2 ∷ []) (file a_c ∷ file gen_h ∷ []) refl;
  agrees = both_orders.agrees;
  seen = both_orders.object_run;
  seen_complete = both_orders.object_complete;
  schedule = before_schedule (file a_c ∷ file gen_h ∷ []) gen_h b_h (Some (103 ∷ [])) None refl refl;
  complete = each_node _ refl refl refl refl refl;
  recipes_agree = followed_agree;
  leaves = refl;
}
