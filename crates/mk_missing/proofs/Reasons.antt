-- A node runs exactly if it has a reason to: it is decided on behind its prerequisites, and what they left is by then as it stays.
use Rattle.std.proofs.Common.{ℕ, ◌≡◌, ◌<◌, ◌||◌, Bool, true, List, [], ◌∷◌, Option, Some, None, refl, sym, ap, ◌∙◌, subst, lt_trans}
use Rattle.std.proofs.lemmas.Bool.{and_parts, or_left, or_right}
use Rattle.mk_name.specs.Names.{Name, same_name}
use Rattle.mk_jobs.specs.Jobs.{Jobs, IsPrerequisite, IsValid, has_recipe, is_phony, name_of, node_count, prerequisites_of}
use Rattle.mk_sched.specs.Stores.{Bytes, File, Store, is_stale, outdates}
use Rattle.mk_sched.specs.Events.{Event, HistoryLine, Looked, Wrote, entries, history, is_started, phase, store_after}
use Rattle.mk_sched.proofs.Basics.{LeftBy, LeftBy-weaker, last_of, passed_begun, split, split_option}
use Rattle.mk_sched.proofs.OneRun.{Decided, IsLater, decided, own_file, own_last}
use Rattle.mk_missing.specs.Doings.{has_write}
use Rattle.mk_missing.specs.Running.{HasReason, RunsByReason, stale, woken}
use Rattle.mk_missing.proofs.Waking.{absent_stale, last_written, one_passes, phony_stale, stale_by, wrote_outdates}

-- a history with a last write has a write
has_last : (x : Name) (es : List HistoryLine) (c : Option Bytes) → last_of x es ≡ Some c → has_write x es ≡ true
has_last x [] c some = cc
has_last x (Looked path seen ∷ es) c some = has_last x es c some
has_last x (Wrote path left ∷ es) c some = split (same_name path x)
    (λ same. or_left _ _ same)
    (λ other. or_right _ _ (has_last x es c (rw other at some)))

-- what makes the own file out of date at the opening still does, whatever that node did
still_old : (tie : Bool) (own : File) (start now : Option File) (last : Option (Option Bytes)) → LeftBy (λ time. own.time < time) start now last
    → outdates tie (Some own) start ≡ true → outdates tie (Some own) now ≡ true
still_old tie own start now None left old = ap (outdates tie (Some own)) left ∙ old
still_old tie own start now (Some c) left old = wrote_outdates tie own start now c left

module _ (jobs : Jobs) (tie : Bool) (limit : ℕ) (opening : Store) (past : List Event) (n : ℕ) (valid : IsValid jobs) (inside : n < node_count jobs)
    (d : Decided jobs tie limit opening past n) where
  abbrev pub now : Store
  now = store_after opening d.earlier

  -- its own file is as at the opening
  own_now : now (name_of jobs n) ≡ opening (name_of jobs n)
  own_now = own_file jobs tie limit opening d.earlier n valid d.run inside (ap is_started d.ready.waits)

  -- a prerequisite's file is what its own node left, newer than the node's file if it was put
  step_now : (p : ℕ) → IsPrerequisite jobs p n → (own : File) → opening (name_of jobs n) ≡ Some own
      → LeftBy (λ time. own.time < time) (opening (name_of jobs p)) (now (name_of jobs p)) (last_of (name_of jobs p) (history past p))
  step_now p step own some =
      let left = own_last jobs tie limit opening d.earlier p valid d.run (lt_trans (valid.smaller n p step) inside) in
      let late = LeftBy-weaker (IsLater jobs tie limit opening d.earlier) (λ time. own.time < time) (λ time later. later n own inside (ap is_started d.ready.waits) some) _ _ _ left in
      subst (λ acts. LeftBy (λ time. own.time < time) (opening (name_of jobs p)) (store_after opening d.earlier (name_of jobs p)) (last_of (name_of jobs p) (entries acts))) (sym (d.final p (d.ready.prerequisites p step))) late

  -- a prerequisite that makes it stale when it is decided on is a reason
  step_reason : (p : ℕ) → IsPrerequisite jobs p n → (own : File) → opening (name_of jobs n) ≡ Some own
      → is_phony jobs p || outdates tie (Some own) (now (name_of jobs p)) ≡ true → HasReason jobs tie opening past n
  step_reason p step own some old = split_option (last_of (name_of jobs p) (history past p))
      (λ none.
      let left = subst (LeftBy (λ time. own.time < time) (opening (name_of jobs p)) (now (name_of jobs p))) none (step_now p step own some) in
      stale (stale_by jobs tie opening n p step (λ other is.
      let both : Some other ≡ Some own = sym is ∙ some in
      let same : own ≡ other = cc in
      subst (λ (f : File). is_phony jobs p || outdates tie (Some f) (opening (name_of jobs p)) ≡ true) same
      (ap (λ file. is_phony jobs p || outdates tie (Some own) file) (sym left) ∙ old))))
      (λ c written. woken step (has_last (name_of jobs p) (history past p) c written))

  -- stale when it is decided on, it has a reason
  pub reason_now : is_stale jobs tie now n ≡ true → HasReason jobs tie opening past n
  reason_now old = split (is_phony jobs n)
      (λ phony. stale (phony_stale jobs tie opening n phony))
      (λ plain. split_option (opening (name_of jobs n))
      (λ none. stale (absent_stale jobs tie opening n none))
      (λ own some.
      let here : now (name_of jobs n) ≡ Some own = own_now ∙ some in
      let one = one_passes _ (prerequisites_of jobs n) (rw (plain, here) at old) in
      step_reason one.0 one.1 own some one.2))

  -- with a reason it is stale when it is decided on
  pub stale_now : HasReason jobs tie opening past n → is_stale jobs tie now n ≡ true
  stale_now (stale old) = split (is_phony jobs n)
      (λ phony. phony_stale jobs tie now n phony)
      (λ plain. split_option (opening (name_of jobs n))
      (λ none. absent_stale jobs tie now n (own_now ∙ none))
      (λ own some.
      let one = one_passes _ (prerequisites_of jobs n) (rw (plain, some) at old) in
      stale_by jobs tie now n one.0 one.1 (λ file here.
      let both : Some own ≡ Some file = sym some ∙ sym own_now ∙ here in
      let same : own ≡ file = cc in
      split (is_phony jobs one.0)
      (λ phony. or_left _ _ phony)
      (λ other. or_right _ _ (subst (λ (f : File). outdates tie (Some f) (now (name_of jobs one.0)) ≡ true) same
      (still_old tie own (opening (name_of jobs one.0)) (now (name_of jobs one.0)) _ (step_now one.0 one.1 own some) (rw other at one.2)))))))
  stale_now (woken {p = p} step wrote) = stale_by jobs tie now n p step (λ own here. or_right _ _ (
      let opened : opening (name_of jobs n) ≡ Some own = sym own_now ∙ here in
      let last = last_written (name_of jobs p) (history past p) wrote in
      let left = subst (LeftBy (λ time. own.time < time) (opening (name_of jobs p)) (now (name_of jobs p))) last.1 (step_now p step own opened) in
      wrote_outdates tie own (opening (name_of jobs p)) (now (name_of jobs p)) last.0 left))

pub runs_by_reason : RunsByReason
runs_by_reason jobs tie limit opening past n valid run complete inside recipe =
    let d = decided jobs tie limit opening past n run (passed_begun (phase past n) (complete n inside)) in (
      λ started. reason_now jobs tie limit opening past n valid inside d (and_parts (has_recipe jobs n) _ (sym d.chosen ∙ started)).1,
      λ reason. d.chosen ∙ rw (recipe, stale_now jobs tie limit opening past n valid inside d reason) refl,
    )
