-- Worked cases, computed: one run that is enough, and two that are not.
use Rattle.std.specs.Prelude.{◌≡◌, true, false, List, [], ◌∷◌, reverse, Option, Some, None}
use Rattle.mk_name.specs.Names.{Name}
use Rattle.mk_jobs.specs.Jobs.{Jobs, IsValid, IsRaceFree}
use Rattle.mk_sched.specs.Stores.{Bytes, AgreesWith}
use Rattle.mk_sched.specs.Events.{Skip, Start, Look, Put, Finish, Event}
use Rattle.mk_sched.specs.Runs.{IsRun, IsComplete, RecipesAgree}
use Rattle.mk_sched.specs.Schedules.{IsSchedule, RecipesAgreeSoFar, stays}
use Rattle.mk_sched.specs.MissingHeader.{gen_h, a_c, a_o, file, header_jobs, missing_header, header_named, object_first, two_sources, by}
use Rattle.mk_sched.specs.HeaderNamedRuns.{source_between}

-- the header and the object are put in one instant, later than the sources
abbrev pub in_one_instant : List Event
in_one_instant =
    by 0 Skip ∷ by 2 Skip ∷ by 1 Start ∷ by 1 (Put gen_h (103 ∷ []) 2) ∷ by 1 Finish
    ∷ by 3 Start ∷ by 3 (Look gen_h (Some (103 ∷ []))) ∷ by 3 (Put a_o (111 ∷ 103 ∷ []) 2) ∷ by 3 Finish ∷ by 4 Skip ∷ []

-- every premise is met: one schedule was seen to stay, though times did not rise in it; of the other no more is known than that it
-- is one and that its recipes agree
pub record OneRunIsEnough : Type 0 where
  pub valid : IsValid header_named
  pub race_free : IsRaceFree header_named
  pub agrees : AgreesWith header_named two_sources
  pub seen : IsSchedule header_named false 1 two_sources (reverse in_one_instant)
  pub seen_stays : stays header_named (reverse in_one_instant) ≡ true
  pub seen_complete : IsComplete header_named (reverse in_one_instant)
  pub no_run : IsRun header_named false 1 two_sources (reverse in_one_instant) → ⊥
  pub schedule : IsSchedule header_named false 2 two_sources (reverse source_between)
  pub complete : IsComplete header_named (reverse source_between)
  pub recipes_agree : RecipesAgree (reverse in_one_instant) (reverse source_between)
  pub agree_so_far : RecipesAgreeSoFar (reverse in_one_instant) (reverse source_between)

-- a recipe that takes each header that it finds in the folder: in the run that was seen there was none, so its footprint
-- has `a.c` alone
abbrev pub header_unseen : Jobs
header_unseen = header_jobs (2 ∷ []) (file a_c ∷ [])

-- the object is made first, in the order of time
abbrev pub no_header_yet : List Event
no_header_yet =
    by 0 Skip ∷ by 2 Skip ∷ by 3 Start ∷ by 3 (Look a_c (Some (97 ∷ []))) ∷ by 3 (Put a_o (111 ∷ []) 2) ∷ by 3 Finish
    ∷ by 1 Start ∷ by 1 (Put gen_h (103 ∷ []) 3) ∷ by 1 Finish ∷ by 4 Skip ∷ []

-- the header is made first, and then the recipe of `a.o` looks at two names and finds this
abbrev pub header_before : Name → Option Bytes → Name → Option Bytes → List Event
header_before x seen y found =
    by 0 Skip ∷ by 2 Skip ∷ by 1 Start ∷ by 1 (Put gen_h (103 ∷ []) 2) ∷ by 1 Finish
    ∷ by 3 Start ∷ by 3 (Look x seen) ∷ by 3 (Look y found) ∷ by 3 (Put a_o (111 ∷ 103 ∷ []) 2) ∷ by 3 Finish ∷ by 4 Skip ∷ []

-- the header is there, and the recipe looks at it, though all that it saw before is the same
abbrev pub header_found : List Event
header_found = header_before a_c (Some (97 ∷ [])) gen_h (Some (103 ∷ []))

-- every premise is met but one: the recipes do not agree, and the second schedule leaves the footprints
pub record FoldersAreNoLooks : Type 0 where
  pub valid : IsValid header_unseen
  pub race_free : IsRaceFree header_unseen
  pub agrees : AgreesWith header_unseen two_sources
  pub seen : IsRun header_unseen false 1 two_sources (reverse no_header_yet)
  pub seen_complete : IsComplete header_unseen (reverse no_header_yet)
  pub schedule : IsSchedule header_unseen false 1 two_sources (reverse header_found)
  pub complete : IsComplete header_unseen (reverse header_found)
  pub disagree : RecipesAgree (reverse no_header_yet) (reverse header_found) → ⊥
  pub leaves : stays header_unseen (reverse header_found) ≡ false

-- `b.h`, which `gen.h` includes
abbrev pub b_h : Name
b_h = 98 ∷ 46 ∷ 104 ∷ []

-- the recipe of `a.o` finds the header, and looks where the header says
abbrev pub header_followed : List Event
header_followed = header_before gen_h (Some (103 ∷ [])) b_h None

-- every premise is met but one: the jobs race (`MissingHeaderRaces`), and the second schedule leaves the footprints
pub record RacesLeave : Type 0 where
  pub valid : IsValid missing_header
  pub agrees : AgreesWith missing_header two_sources
  pub seen : IsRun missing_header false 1 two_sources (reverse object_first)
  pub seen_complete : IsComplete missing_header (reverse object_first)
  pub schedule : IsSchedule missing_header false 1 two_sources (reverse header_followed)
  pub complete : IsComplete missing_header (reverse header_followed)
  pub recipes_agree : RecipesAgree (reverse object_first) (reverse header_followed)
  pub leaves : stays missing_header (reverse header_followed) ≡ false
