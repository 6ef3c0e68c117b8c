-- What the answer that a build is safe says.
use Rattle.std.proofs.Common.{ℕ, List, Ok, subst, sym}
use Rattle.mk_jobs.specs.Jobs.{Jobs}
use Rattle.mk_sched.specs.Schedules.{IsDeterminateFromOneRun}
use Rattle.mk_race.specs.Judged.{NoScheduleShows, RunsAlike}
use Rattle.mk_race.specs.Stages.{ForAllBuilds, IsPrepared, Texts}
use Rattle.mk_race.specs.declared.preparing.Prepared.{Prepared}
use Rattle.mk_race.proofs.Listed.{store_agrees}
use Rattle.mk_race.proofs.OneBuild.{build_is_one}

-- a store that agrees with the listing agrees with the jobs, so the runs of jobs that are determinate from one run are alike
pub runs_alike : (texts : Texts) (footprints : List ℕ) (prepared : Prepared) → IsPrepared texts footprints (Ok prepared)
    → IsDeterminateFromOneRun prepared.jobs → RunsAlike prepared
runs_alike texts footprints prepared build one opening tie limit other seen past agrees =
    one opening tie limit other seen past (store_agrees texts footprints prepared opening build agrees)

-- so no schedule of a build of such jobs shows
pub no_build_shows : (jobs : Jobs) → IsDeterminateFromOneRun jobs → ForAllBuilds jobs NoScheduleShows
no_build_shows jobs one prepared texts footprints is build = record {
  prepared = prepared;
  build = build;
  only = λ other same. build_is_one texts footprints prepared other build same;
  alike = runs_alike texts footprints prepared build (subst IsDeterminateFromOneRun (sym is) one);
}
