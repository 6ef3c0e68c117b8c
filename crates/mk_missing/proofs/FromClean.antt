-- The nodes of a kept store are known: a clean one by its absent targets, and then builds and edits by turns. So the second headline holds.
use Rattle.std.proofs.Common.{ℕ, ◌≡◌, inl, inr, Bool, true, false, List, sym, ap, ◌∙◌, subst, is_some}
use Rattle.std.proofs.lemmas.Bool.{false≢true, false_from_ne_true}
use Rattle.mk_name.specs.Names.{Name}
use Rattle.mk_jobs.specs.Jobs.{Jobs, IsValid, IsRaceFree, name_of, is_phony, may_write}
use Rattle.mk_jobs.proofs.JobsLemmas.{live_node}
use Rattle.mk_sched.specs.Stores.{Store, bytes_of}
use Rattle.mk_sched.specs.Events.{Event, store_after}
use Rattle.mk_sched.specs.Runs.{IsRun}
use Rattle.mk_sched.specs.Programs.{Program}
use Rattle.mk_sched.specs.Schedules.{stays}
use Rattle.mk_sched.proofs.Basics.{split}
use Rattle.mk_sched.proofs.Staying.{run_is_schedule}
use Rattle.mk_missing.specs.Watching.{makes_own, IsDeclared}
use Rattle.mk_missing.specs.Incremental.{HasSources, IsClean, IsSource, IsKept, clean, edited, OldTreesStay, AsFromClean}
use Rattle.mk_missing.specs.Laws.{stale, AllKnown}
use Rattle.mk_missing.proofs.Waking.{absent_if, phony_stale, absent_stale}
use Rattle.mk_missing.proofs.Building.{build_settles}
use Rattle.mk_missing.proofs.Editing.{edit_is_known}
use Rattle.mk_missing.proofs.OldTrees.{known_stays, source_stays}
use Rattle.mk_missing.proofs.Settling.{settled_once}

module _ (jobs : Jobs) (tie : Bool) (limit : ℕ) (opening : Store) where
  -- what had its sources has them still
  sources_stay : (past : List Event) → IsValid jobs → IsRun jobs tie limit opening past → HasSources jobs opening → HasSources jobs (store_after opening past)
  sources_stay past valid run has n inside other =
      let source : IsSource jobs (name_of jobs n) = λ m. false_from_ne_true _ (λ writes. false≢true (sym other ∙ subst (λ k. may_write jobs k (name_of jobs n) ≡ true) (valid.own m n inside writes) writes)) in
      ap is_some (source_stays jobs tie limit opening past (name_of jobs n) source run) ∙ has n inside other

module _ (jobs : Jobs) (programs : ℕ → Program) (fixed : Name → Bool) (valid : IsValid jobs) (free : IsRaceFree jobs) (declared : IsDeclared jobs fixed) where
  -- in a clean store each live node is phony or absent, and so will run
  clean_known : (store : Store) → IsClean jobs store → AllKnown jobs programs store
  clean_known store empty n live calm = absurd (calm (stale live (split (is_phony jobs n)
      (λ phony. phony_stale jobs false store n phony)
      (λ plain. absent_stale jobs false store n (split (makes_own jobs n)
      (λ makes. empty.made n (name_of jobs n) makes)
      (λ other. absent_if _ (empty.sources n (live_node jobs n live) other ∙ declared.absent n live plain)))))))

  kept_sources : (store : Store) → IsKept jobs programs fixed store → HasSources jobs store
  kept_sources store (clean empty) = empty.sources
  kept_sources store (edited kept build stayed edit) = edit.sources

  kept_known : (store : Store) → IsKept jobs programs fixed store → AllKnown jobs programs store
  kept_known store (clean empty) = clean_known store empty
  kept_known store (edited {store = old} {past = past} kept build stayed edit) =
      let had = kept_sources old kept in
      let knew = kept_known old kept in
      let within : stays jobs past ≡ true = elim stayed [
        | inl own ↦ own
        | inr seen ↦ known_stays jobs programs fixed old past valid free declared had knew seen (clean_known seen.clean seen.is_clean) build
      ] in
      let run = (run_is_schedule jobs build.tie build.limit old past).1 (build.schedule, within, build.rise) in
      edit_is_known jobs programs fixed (store_after old past) store valid declared (sources_stay jobs build.tie build.limit old past valid run had) edit
      (build_settles jobs programs fixed old past valid free declared had knew build within)

pub old_trees_stay : OldTreesStay
old_trees_stay jobs programs fixed opening past valid free declared kept seen build =
    known_stays jobs programs fixed opening past valid free declared (kept_sources jobs programs fixed valid free declared opening kept) (kept_known jobs programs fixed valid free declared opening kept)
    seen (clean_known jobs programs fixed valid free declared seen.clean seen.is_clean) build

pub as_from_clean : AsFromClean
as_from_clean jobs programs fixed opening empty a b valid free declared kept is_clean sources build_a build_b stays_b =
    let stays_a = old_trees_stay jobs programs fixed opening a valid free declared kept
    (record { clean = empty; past = b; is_clean = is_clean; sources = sources; build = build_b; stayed = stays_b }) build_a in
    let run_a = (run_is_schedule jobs build_a.tie build_a.limit opening a).1 (build_a.schedule, stays_a, build_a.rise) in
    let run_b = (run_is_schedule jobs build_b.tie build_b.limit empty b).1 (build_b.schedule, stays_b, build_b.rise) in
    settled_once jobs programs fixed (store_after opening a) (store_after empty b) valid declared
    (λ x source. ap bytes_of (source_stays jobs build_a.tie build_a.limit opening a x source run_a) ∙ sources x source ∙ sym (ap bytes_of (source_stays jobs build_b.tie build_b.limit empty b x source run_b)))
    (build_settles jobs programs fixed opening a valid free declared (kept_sources jobs programs fixed valid free declared opening kept) (kept_known jobs programs fixed valid free declared opening kept) build_a stays_a)
    (build_settles jobs programs fixed empty b valid free declared is_clean.sources (clean_known jobs programs fixed valid free declared empty is_clean) build_b stays_b)
