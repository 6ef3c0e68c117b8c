-- Runs from a clean tree, with edges more and without.
use Rattle.std.proofs.Common.{ℕ, ◌≡◌, ◌<◌, Bool, true, false, List, [], ◌∷◌, Option, Some, None, refl, sym, ap, subst, ◌∙◌, inl, inr}
use Rattle.std.specs.Prelude.{◌&&◌, not, is_none, is_some}
use Rattle.std.proofs.lemmas.Bool.{and_parts, cases_Bool, both_ways, false≢true, false_from_ne_true, and_from, not_from_false}
use Rattle.mk_jobs.specs.Jobs.{Jobs, IsValid, has_recipe, is_empty, is_idle, is_listed, is_live, is_phony, name_of, node_count, prerequisites_of}
use Rattle.mk_sched.specs.Events.{Act, Event, Waiting, Skip, Start, Look, Put, Erase, Finish, is_started, phase, store_after}
use Rattle.mk_sched.specs.Runs.{IsReady, IsRun, May}
use Rattle.mk_sched.specs.Stores.{AgreesWith, File, Store, is_stale, must_run}
use Rattle.mk_sched.proofs.OneRun.{own_file}
use Rattle.mk_fix.specs.Added.{AreRisingToLive, with_edges}
use Rattle.mk_fix.specs.Laws.{IsClean}
use Rattle.mk_fix.proofs.Adding.{count_same, live_same, name_same, old_edge, phony_same, read_same, recipe_same, write_same}
use Rattle.mk_fix.proofs.Fixing.{valid_stays}

-- what has nothing is empty
nil_of : (xs : List ℕ) → is_empty xs ≡ true → xs ≡ []
nil_of [] e = refl
nil_of (x ∷ xs) e = absurd (false≢true e)

none_of : (o : Option File) → is_some o ≡ false → is_none o ≡ true
none_of None e = refl
none_of (Some f) e = absurd (false≢true (sym e))

-- a recipe that is not live needs nothing
idle_nil : (jobs : Jobs) (n : ℕ) → has_recipe jobs n ≡ true → is_live jobs n ≡ false → prerequisites_of jobs n ≡ []
idle_nil jobs n made dead = elim (cases_Bool (is_idle jobs n)) [
  | inl idle ↦ nil_of (prerequisites_of jobs n) (and_parts (has_recipe jobs n && is_listed jobs n && not (is_phony jobs n)) (is_empty (prerequisites_of jobs n)) idle).1
  | inr busy ↦ absurd (both_ways (is_live jobs n) dead (and_from (has_recipe jobs n) (not (is_idle jobs n)) made (not_from_false (is_idle jobs n) busy)))
]

-- what is phony or absent is stale
stale_absent : (jobs : Jobs) (tie : Bool) (store : Store) (n : ℕ) → is_none (store (name_of jobs n)) ≡ true → is_stale jobs tie store n ≡ true
stale_absent jobs tie store n absent = elim (cases_Bool (is_phony jobs n)) [ inl phony ↦ rw phony refl | inr other ↦ rw (other, absent) refl ]

stale_phony : (jobs : Jobs) (tie : Bool) (store : Store) (n : ℕ) → is_phony jobs n ≡ true → is_stale jobs tie store n ≡ true
stale_phony jobs tie store n phony = rw phony refl

module _ (jobs : Jobs) (edges : List (ℕ × ℕ)) (tie : Bool) (limit : ℕ) (opening : Store) (valid : IsValid jobs) (rising : AreRisingToLive jobs edges) (clean : IsClean jobs) (agrees : AgreesWith jobs opening) where
  -- what waits must run with the edges just where it must without
  absent : (past : List Event) (n : ℕ) → IsRun (with_edges jobs edges) tie limit opening past → n < node_count jobs → phase past n ≡ Waiting → is_listed jobs n ≡ false
      → is_none (store_after opening past (name_of jobs n)) ≡ true
  absent past n run below waits unlisted =
      let kept = own_file (with_edges jobs edges) tie limit opening past n (valid_stays jobs edges valid rising) run (rw (count_same jobs edges rising) below) (ap is_started waits) in
      let here : store_after opening past (name_of jobs n) ≡ opening (name_of jobs n) =
      subst (λ x. store_after opening past x ≡ opening x) (name_same jobs edges rising n) kept in
      ap is_none here ∙ none_of (opening (name_of jobs n)) (agrees n below ∙ unlisted)

  same_stale : (past : List Event) (n : ℕ) → IsRun (with_edges jobs edges) tie limit opening past → n < node_count jobs → phase past n ≡ Waiting → has_recipe jobs n ≡ true
      → is_stale (with_edges jobs edges) tie (store_after opening past) n ≡ is_stale jobs tie (store_after opening past) n
  same_stale past n run below waits made = elim (cases_Bool (is_live jobs n)) [
    | inl live ↦ elim (cases_Bool (is_phony jobs n)) [
      | inl phony ↦ stale_phony (with_edges jobs edges) tie (store_after opening past) n (phony_same jobs edges rising n ∙ phony) ∙ sym (stale_phony jobs tie (store_after opening past) n phony)
      | inr other ↦
          let unlisted = false_from_ne_true (is_listed jobs n) (λ listed. both_ways (is_phony jobs n) other (clean n live listed)) in
          let none = absent past n run below waits unlisted in
          stale_absent (with_edges jobs edges) tie (store_after opening past) n
          (subst (λ x. is_none (store_after opening past x) ≡ true) (sym (name_same jobs edges rising n)) none)
          ∙ sym (stale_absent jobs tie (store_after opening past) n none)
    ]
    | inr dead ↦
        let old = idle_nil jobs n made dead in
        let new = idle_nil (with_edges jobs edges) n (recipe_same jobs edges rising n ∙ made) (live_same jobs edges rising n ∙ dead) in
        rw (old, new, name_same jobs edges rising n, phony_same jobs edges rising n) refl
  ]

  same_must : (past : List Event) (n : ℕ) → IsRun (with_edges jobs edges) tie limit opening past → n < node_count jobs → phase past n ≡ Waiting
      → must_run (with_edges jobs edges) tie (store_after opening past) n ≡ must_run jobs tie (store_after opening past) n
  same_must past n run below waits = elim (cases_Bool (has_recipe jobs n)) [
    | inl made ↦ rw (recipe_same jobs edges rising n, made, same_stale past n run below waits made) refl
    | inr none ↦ rw (recipe_same jobs edges rising n, none) refl
  ]

  still_ready : (past : List Event) (n : ℕ) → IsReady (with_edges jobs edges) past n → IsReady jobs past n
  still_ready past n ready = record {
    in_jobs = rw (sym (count_same jobs edges rising)) ready.in_jobs;
    waits = ready.waits;
    prerequisites = λ p h. ready.prerequisites p (old_edge jobs edges p n h);
  }

  still_may : (past : List Event) (n : ℕ) (act : Act) → IsRun (with_edges jobs edges) tie limit opening past
      → May (with_edges jobs edges) tie limit opening past n act → May jobs tie limit opening past n act
  still_may past n Skip run may =
      let ready = still_ready past n may.ready in
      record { ready = ready; fresh = sym (same_must past n run ready.in_jobs ready.waits) ∙ may.fresh }
  still_may past n Start run may =
      let ready = still_ready past n may.ready in
      record {
        ready = ready;
        stale = sym (same_must past n run ready.in_jobs ready.waits) ∙ may.stale;
        room = rw (sym (count_same jobs edges rising)) may.room;
      }
  still_may past n (Look path seen) run may = record { runs = may.runs; reads = sym (read_same jobs edges rising n path) ∙ may.reads; reports = may.reports }
  still_may past n (Put path bytes time) run may = record { runs = may.runs; writes = sym (write_same jobs edges rising n path) ∙ may.writes; newer = may.newer }
  still_may past n (Erase path) run may = record { runs = may.runs; writes = sym (write_same jobs edges rising n path) ∙ may.writes }
  still_may past n Finish run may = may

  pub clean_run : (past : List Event) → IsRun (with_edges jobs edges) tie limit opening past → IsRun jobs tie limit opening past
  clean_run [] run = tt
  clean_run (e ∷ past) run = (clean_run past run.0, still_may past e.node e.act run.0 run.1)
