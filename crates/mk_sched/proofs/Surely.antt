-- Nodes that are surely stale.
use Rattle.std.proofs.Common.{ℕ, ◌≡◌, ◌<◌, ◌||◌, not, nat_lt, Bool, true, false, List, [], ◌∷◌, Option, Some, None, refl, sym, ap, ◌∙◌, is_some, is_none, Contains, arith, ltb-true, lt_trans}
use Rattle.std.specs.List.{list_any}
use Rattle.std.proofs.lemmas.Bool.{or_left, or_right}
use Rattle.std.proofs.lemmas.List.Elements.{Contains-append_right}
use Rattle.mk_jobs.specs.Jobs.{Jobs, node_count, name_of, prerequisites_of, is_phony, is_listed}
use Rattle.mk_sched.specs.Stores.{Bytes, Store, File, AgreesWith, outdates}
use Rattle.mk_sched.specs.Events.{history, store_after}
use Rattle.mk_sched.specs.Sure.{HasTimes, SurelyStale}
use Rattle.mk_sched.proofs.Basics.{split, last_of, LeftBy}
use Rattle.mk_sched.proofs.OneRun.{own_file, own_last, IsLater}
use Rattle.mk_sched.proofs.TwoRuns.{outdates-newer}

-- where one test finds an element, so does a weaker one
list_any-weaker : {X : Type 0} (p q : X → Bool) (xs : List X) → ((x : X) → Contains xs x → p x ≡ true → q x ≡ true) → list_any p xs ≡ true → list_any q xs ≡ true
list_any-weaker p q [] weaker found = found
list_any-weaker p q (x ∷ xs) weaker found = split (p x)
    (λ here. or_left _ _ (weaker x (0, omega arith, refl) here))
    (λ not_here. or_right _ _ (list_any-weaker p q xs (λ y inside. weaker y (Contains-append_right (x ∷ []) xs y inside)) (rw not_here at found)))

absent_if : (o : Option File) → is_some o ≡ false → o ≡ None
absent_if None none = refl
absent_if (Some file) none = cc

-- the file at the opening makes out of date: it is absent, or newer than the own file
abbrev IsNewer : Option File → Option File → Type 0
IsNewer own None = Unit {0}
IsNewer own (Some file) = (f : File) → own ≡ Some f → f.time < file.time

-- so does whatever its node leaves there
newer_stays : (tie : Bool) (own start now : Option File) (later : ℕ → Type 0) (last : Option (Option Bytes)) → LeftBy later start now last
    → ((file : File) (time : ℕ) → own ≡ Some file → later time → file.time < time) → IsNewer own start → outdates tie own now ≡ true
newer_stays tie own None now later None left after newer = ap (outdates tie own) left
newer_stays tie own (Some file) now later None left after newer = ap (outdates tie own) left ∙ outdates-newer tie own file.bytes file.time newer
newer_stays tie own start now later (Some None) left after newer = ap (outdates tie own) left
newer_stays tie own start now later (Some (Some bytes)) left after newer = ap (outdates tie own) left.1 ∙ outdates-newer tie own bytes left.0 (λ file is. after file left.0 is left.2)

-- by the times of the opening
newer_opening : (jobs : Jobs) (times : ℕ → ℕ) (opening : Store) (n p : ℕ) → AgreesWith jobs opening → HasTimes jobs times opening → n < node_count jobs → p < node_count jobs
    → not (is_listed jobs p) || nat_lt (times n) (times p) ≡ true → IsNewer (opening (name_of jobs n)) (opening (name_of jobs p))
newer_opening jobs times opening n p agrees has_times inside below sure = go (opening (name_of jobs p)) refl
  where
    go : (file : Option File) → opening (name_of jobs p) ≡ file → IsNewer (opening (name_of jobs n)) file
    go None is = tt
    go (Some file) is = λ f own.
        let listed : is_listed jobs p ≡ true = sym (agrees p below) ∙ ap is_some is in
        let less : times n < times p = ltb-true _ _ (rw listed at sure) in
        let here = has_times p file below is in
        let there = has_times n f inside own in
        omega arith

pub surely : SurelyStale
surely jobs times tie limit opening past n valid agrees has_times run inside idle sure =
    let own : store_after opening past (name_of jobs n) ≡ opening (name_of jobs n) = own_file jobs tie limit opening past n valid run inside idle in
    rw own (split (is_phony jobs n)
    (λ phony. rw phony refl)
    (λ unphony. rw unphony (split (is_listed jobs n)
    (λ listed. or_right _ _ (list_any-weaker _ _ (prerequisites_of jobs n)
    (λ p step found. split (is_phony jobs p)
    (λ phony. rw phony refl)
    (λ unphony_p.
    let below : p < node_count jobs = lt_trans (valid.smaller n p step) inside in
    rw unphony_p (newer_stays tie (opening (name_of jobs n)) (opening (name_of jobs p)) (store_after opening past (name_of jobs p)) (IsLater jobs tie limit opening past)
    (last_of (name_of jobs p) (history past p)) (own_last jobs tie limit opening past p valid run below) (λ file time is later. later n file inside idle is)
    (newer_opening jobs times opening n p agrees has_times inside below (rw unphony_p at found)))))
    (rw (unphony, listed) at sure)))
    (λ unlisted. or_left _ _ (ap is_none (absent_if _ (agrees n inside ∙ unlisted)))))))
