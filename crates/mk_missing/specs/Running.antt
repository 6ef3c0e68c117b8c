-- When a recipe runs in a build of an old tree.
use Rattle.std.specs.Prelude.{ℕ, ◌≡◌, ◌<◌, ◌↔◌, Bool, true, List}
use Rattle.mk_jobs.specs.Jobs.{Jobs, IsPrerequisite, IsValid, has_recipe, name_of, node_count}
use Rattle.mk_sched.specs.Stores.{Store, is_stale}
use Rattle.mk_sched.specs.Events.{Event, history, is_started, phase}
use Rattle.mk_sched.specs.Runs.{IsComplete, IsRun}
use Rattle.mk_missing.specs.Doings.{has_write}

-- n has a reason to run in this build: it is stale when the build begins, or a prerequisite of it writes its own file
pub data HasReason (jobs : Jobs) (tie : Bool) (opening : Store) (past : List Event) (n : ℕ) : Type 0 where
  stale : is_stale jobs tie opening n ≡ true → HasReason jobs tie opening past n
  woken : {p : ℕ} → IsPrerequisite jobs p n → has_write (name_of jobs p) (history past p) ≡ true → HasReason jobs tie opening past n

-- in a complete run of valid jobs a node with a recipe runs exactly if it has a reason to
abbrev pub RunsByReason : Type 0
RunsByReason =
    (jobs : Jobs) (tie : Bool) (limit : ℕ) (opening : Store) (past : List Event) (n : ℕ)
    → IsValid jobs → IsRun jobs tie limit opening past → IsComplete jobs past → n < node_count jobs → has_recipe jobs n ≡ true
    → (is_started (phase past n) ≡ true) ↔ HasReason jobs tie opening past n
