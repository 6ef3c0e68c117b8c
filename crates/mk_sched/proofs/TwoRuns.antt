-- Facts about two runs from one store: what was written alike is read alike, and makes nodes stale alike.
use Rattle.std.proofs.Common.{ℕ, ◌≡◌, ◌<◌, ◌⊎◌, inl, inr, Bool, true, false, List, Option, Some, None, refl, sym, ap, ◌∙◌, subst, ◌||◌, arith, lt-ltb, is_none, lt_trans}
use Rattle.std.proofs.lemmas.Bool.{or_left}
use Rattle.mk_name.specs.Names.{Name}
use Rattle.mk_jobs.specs.Jobs.{Jobs, IsValid, IsRaceFree, IsPrerequisite, Before, node_count, name_of, prerequisites_of, is_phony, may_read}
use Rattle.mk_jobs.proofs.JobsLemmas.{before_less, writer_live, live_node}
use Rattle.mk_sched.specs.Stores.{Bytes, File, Store, bytes_of, outdates, is_stale}
use Rattle.mk_sched.specs.Events.{Event, Running, is_passed, is_started, phase, history, store_after}
use Rattle.mk_sched.specs.Runs.{IsRun}
use Rattle.mk_sched.proofs.Basics.{list_any-alike, last_of, LeftBy}
use Rattle.mk_sched.proofs.OneRun.{own_file, own_last, IsLater, after_writers, wrote, Touched, last_write}

-- no two nodes are before one another
pub before_once : {jobs : Jobs} {a b : ℕ} → IsValid jobs → Before jobs a b → Before jobs b a → ⊥
before_once valid there back =
    let up = before_less valid there in
    let down = before_less valid back in
    omega arith

-- a file that was put later makes out of date
pub outdates-newer : (tie : Bool) (own : Option File) (bytes : Bytes) (time : ℕ) → ((file : File) → own ≡ Some file → file.time < time) → outdates tie own (Some (record { bytes = bytes; time = time })) ≡ true
outdates-newer tie None bytes time newer = refl
outdates-newer tie (Some file) bytes time newer = rw (lt-ltb file.time time (newer file refl)) refl

-- two files that the same history left make a third one out of date alike, if puts are later than it
pub outdates-alike : (tie : Bool) (own start left right : Option File) (later other : ℕ → Type 0) (last : Option (Option Bytes)) → LeftBy later start left last → LeftBy other start right last
    → ((file : File) (time : ℕ) → own ≡ Some file → later time → file.time < time) → ((file : File) (time : ℕ) → own ≡ Some file → other time → file.time < time) → outdates tie own left ≡ outdates tie own right
outdates-alike tie own start left right later other None l r after_l after_r = ap (outdates tie own) (l ∙ sym r)
outdates-alike tie own start left right later other (Some None) l r after_l after_r = ap (outdates tie own) (l ∙ sym r)
outdates-alike tie own start left right later other (Some (Some bytes)) l r after_l after_r =
    rw (l.1, r.1) (outdates-newer tie own bytes l.0 (λ file is. after_l file l.0 is l.2) ∙ sym (outdates-newer tie own bytes r.0 (λ file is. after_r file r.0 is r.2)))

module _ (jobs : Jobs) (opening : Store) (tie other_tie : Bool) (limit other : ℕ) where
  -- the last writers of x in two runs are the same node, so what stands there is the same
  same_touched : (a b : List Event) (x : Name) → IsValid jobs → (ta : Touched jobs tie limit opening a x) (tb : Touched jobs other_tie other opening b x)
      → history a ta.writer ≡ history b ta.writer → history a tb.writer ≡ history b tb.writer → bytes_of (store_after opening a x) ≡ bytes_of (store_after opening b x)
  same_touched a b x valid ta tb same_a same_b =
      let in_b : last_of x (history b ta.writer) ≡ Some (bytes_of (store_after opening a x)) = ap (last_of x) (sym same_a) ∙ ta.left in
      let in_a : last_of x (history a tb.writer) ≡ Some (bytes_of (store_after opening b x)) = ap (last_of x) same_b ∙ tb.left in
      elim (tb.others ta.writer _ in_b) [
        | inl same ↦ let there : last_of x (history b ta.writer) ≡ Some (bytes_of (store_after opening b x)) = ap (λ w. last_of x (history b w)) same ∙ tb.left in cc
        | inr before ↦ elim (ta.others tb.writer _ in_a) [
          | inl same ↦ let there : last_of x (history a tb.writer) ≡ Some (bytes_of (store_after opening a x)) = ap (λ w. last_of x (history a w)) same ∙ ta.left in cc
          | inr after ↦ absurd (before_once valid before after)
        ]
      ]

  -- x holds the same in two runs, if all who wrote it in either did the same in both
  pub same_bytes : (a b : List Event) (x : Name) → IsValid jobs → IsRaceFree jobs → IsRun jobs tie limit opening a → IsRun jobs other_tie other opening b
      → ((m : ℕ) (c : Option Bytes) → last_of x (history a m) ≡ Some c → history a m ≡ history b m)
      → ((m : ℕ) (c : Option Bytes) → last_of x (history b m) ≡ Some c → history a m ≡ history b m)
      → bytes_of (store_after opening a x) ≡ bytes_of (store_after opening b x)
  same_bytes a b x valid free run_a run_b in_a in_b =
      elim (last_write jobs tie limit opening a x free run_a) [
        | inl ua ↦ elim (last_write jobs other_tie other opening b x free run_b) [
          | inl ub ↦ ua.0 ∙ sym ub.0
          | inr tb ↦ let none = ua.1 tb.writer in let some = ap (last_of x) (in_b tb.writer _ tb.left) ∙ tb.left in cc
        ]
        | inr ta ↦ elim (last_write jobs other_tie other opening b x free run_b) [
          | inl ub ↦ let none = ub.1 ta.writer in let some = ap (last_of x) (sym (in_a ta.writer _ ta.left)) ∙ ta.left in cc
          | inr tb ↦ same_touched a b x valid ta tb (in_a ta.writer _ ta.left) (in_b tb.writer _ tb.left)
        ]
      ]

  -- every name holds the same in two runs in which every node did the same
  pub same_files : (a b : List Event) (x : Name) → IsValid jobs → IsRaceFree jobs → IsRun jobs tie limit opening a → IsRun jobs other_tie other opening b
      → ((m : ℕ) → m < node_count jobs → history a m ≡ history b m) → bytes_of (store_after opening a x) ≡ bytes_of (store_after opening b x)
  same_files a b x valid free run_a run_b same = same_bytes a b x valid free run_a run_b
      (λ m c some. same m (live_node jobs m (writer_live jobs m x (wrote jobs tie limit opening a m x c run_a some).0)))
      (λ m c some. same m (live_node jobs m (writer_live jobs m x (wrote jobs other_tie other opening b m x c run_b some).0)))

  -- a running node reads the same in two runs, if it and all nodes before it did the same in both
  pub look_alike : (a b : List Event) (n : ℕ) (x : Name) → IsValid jobs → IsRaceFree jobs → IsRun jobs tie limit opening a → IsRun jobs other_tie other opening b
      → phase a n ≡ Running → phase b n ≡ Running → history a n ≡ history b n → ((m : ℕ) → Before jobs m n → history a m ≡ history b m) → may_read jobs n x ≡ true
      → bytes_of (store_after opening a x) ≡ bytes_of (store_after opening b x)
  look_alike a b n x valid free run_a run_b runs_a runs_b same earlier reads =
      let known = λ (m : ℕ) (w : (m ≡ n) ⊎ Before jobs m n). elim w as (λ _. history a m ≡ history b m) [ inl is ↦ subst (λ k. history a k ≡ history b k) (sym is) same | inr before ↦ earlier m before ] in
      same_bytes a b x valid free run_a run_b
      (λ m c some. known m (after_writers jobs tie limit opening a n m x c free run_a (ap is_passed runs_a) (or_left _ _ reads) some))
      (λ m c some. known m (after_writers jobs other_tie other opening b n m x c free run_b (ap is_passed runs_b) (or_left _ _ reads) some))

module _ (jobs : Jobs) (opening : Store) (tie : Bool) (limit other : ℕ) where
  -- a node that has not started is stale in both runs or in neither, if its prerequisites did the same in both
  pub stale_alike : (a b : List Event) (n : ℕ) → IsValid jobs → IsRun jobs tie limit opening a → IsRun jobs tie other opening b → n < node_count jobs
      → is_started (phase a n) ≡ false → is_started (phase b n) ≡ false → ((p : ℕ) → IsPrerequisite jobs p n → history a p ≡ history b p)
      → is_stale jobs tie (store_after opening a) n ≡ is_stale jobs tie (store_after opening b) n
  stale_alike a b n valid run_a run_b inside idle_a idle_b same =
      let own_a : store_after opening a (name_of jobs n) ≡ opening (name_of jobs n) = own_file jobs tie limit opening a n valid run_a inside idle_a in
      let own_b : store_after opening b (name_of jobs n) ≡ opening (name_of jobs n) = own_file jobs tie other opening b n valid run_b inside idle_b in
      rw (own_a, own_b) (ap (λ rest. is_phony jobs n || is_none (opening (name_of jobs n)) || rest)
      (list_any-alike _ _ (prerequisites_of jobs n) (λ p step.
      let below : p < node_count jobs = lt_trans (valid.smaller n p step) inside in
      ap (λ rest. is_phony jobs p || rest)
      (outdates-alike tie (opening (name_of jobs n)) (opening (name_of jobs p)) (store_after opening a (name_of jobs p)) (store_after opening b (name_of jobs p))
      (IsLater jobs tie limit opening a) (IsLater jobs tie other opening b) (last_of (name_of jobs p) (history b p))
      (subst (λ h. LeftBy (IsLater jobs tie limit opening a) (opening (name_of jobs p)) (store_after opening a (name_of jobs p)) (last_of (name_of jobs p) h)) (same p step) (own_last jobs tie limit opening a p valid run_a below))
      (own_last jobs tie other opening b p valid run_b below)
      (λ file time is later. later n file inside idle_a is)
      (λ file time is later. later n file inside idle_b is)))))
