-- A build of a store whose nodes are known leaves one whose nodes are settled: who did not start had no reason to. So it is for those that
-- have passed in a build that still goes on.
use Rattle.std.proofs.Common.{ℕ, ◌≡◌, inl, inr, Bool, true, false, List, Option, Some, reverse, sym, ap, ◌∙◌, subst, lt_trans}
use Rattle.std.proofs.lemmas.Bool.{false≢true}
use Rattle.mk_name.specs.Names.{Name}
use Rattle.mk_jobs.specs.Jobs.{Jobs, IsValid, IsRaceFree, IsPrerequisite, name_of, is_live, is_listed, may_write}
use Rattle.mk_jobs.proofs.JobsLemmas.{live_node}
use Rattle.mk_sched.specs.Stores.{Bytes, Store, bytes_of}
use Rattle.mk_sched.specs.Events.{Event, Ran, phase, is_passed, is_started, history, store_after}
use Rattle.mk_sched.specs.Runs.{IsRun}
use Rattle.mk_sched.specs.Programs.{Program, Follows}
use Rattle.mk_sched.proofs.Basics.{split, is_begun, passed_begun, ran_if, last_of}
use Rattle.mk_sched.proofs.OneRun.{wrote, last_write, unstarted_empty}
use Rattle.mk_sched.proofs.Staying.{run_is_schedule}
use Rattle.mk_missing.specs.Watching.{RunsWith, IsLastWriter, Watches, always, named, through, written, never, IsInput, IsDeclared}
use Rattle.mk_missing.specs.Doings.{IsAfresh, found_by}
use Rattle.mk_missing.specs.Incremental.{HasSources}
use Rattle.mk_missing.specs.Laws.{IsSettled, WillRun, AllKnown, BuildSettles}
use Rattle.mk_missing.proofs.DoneAlone.{started_settled}
use Rattle.mk_missing.proofs.Waking.{will_always, put_wakes, carries_begun, carries_starts, will_start}

-- who ran to its end followed its program, and worked afresh
abbrev pub HaveWorked : Jobs → (ℕ → Program) → Store → List Event → Type 0
HaveWorked jobs programs opening past =
    (n : ℕ) → phase past n ≡ Ran → Follows (programs n) (reverse (history past n)) × IsAfresh jobs n (found_by opening past n) (history past n)

module _ (jobs : Jobs) (programs : ℕ → Program) (fixed : Name → Bool) (opening : Store) (past : List Event) (valid : IsValid jobs) (free : IsRaceFree jobs)
    (declared : IsDeclared jobs fixed) (has : HasSources jobs opening) (tie : Bool) (limit : ℕ) (run : IsRun jobs tie limit opening past)
    (worked : HaveWorked jobs programs opening past) where
  abbrev Starts : ℕ → Type 0
  Starts n = is_started (phase past n) ≡ true

  abbrev IsBegun : ℕ → Type 0
  IsBegun n = is_begun (phase past n) ≡ true

  will_starts : (n : ℕ) → IsBegun n → WillRun jobs opening n → Starts n
  will_starts = will_start jobs tie limit opening past valid run (λ m ran. (worked m ran).1)

  carried_on : (m n : ℕ) → IsBegun n → RunsWith jobs m n → Starts m → Starts n
  carried_on m n begun (inl often) started = will_starts n begun (will_always jobs opening n valid has often)
  carried_on m n begun (inr way) started = carries_starts jobs tie limit opening past valid run (λ k ran. (worked k ran).1) m n begun way started

  -- who wrote x has started
  writer_started : (m : ℕ) (x : Name) (c : Option Bytes) → last_of x (history past m) ≡ Some c → Starts m
  writer_started m x c some = split (is_started (phase past m)) (λ started. started)
      (λ idle. absurd (let none = ap (last_of x) (unstarted_empty jobs tie limit opening past m run idle) in cc))

  -- a node that names x starts if x was written
  naming_starts : (n m : ℕ) (x : Name) (c : Option Bytes) → is_live jobs n ≡ true → IsBegun n → (p : ℕ) → IsPrerequisite jobs p n → name_of jobs p ≡ x → last_of x (history past m) ≡ Some c → Starts n
  naming_starts n m x c live begun p step is some =
      let writes = subst (λ y. may_write jobs m y ≡ true) (sym is) (wrote jobs tie limit opening past m x c run some).0 in
      let own : m ≡ p = valid.own m p (lt_trans (valid.smaller n p step) (live_node jobs n live)) writes in
      put_wakes jobs tie limit opening past valid run n p c live begun step
      (ap (λ k. last_of (name_of jobs p) (history past k)) (sym own) ∙ ap (λ y. last_of y (history past m)) is ∙ some)

  -- and so does each node that watches x
  watching_starts : (n m : ℕ) (x : Name) (c : Option Bytes) → is_live jobs n ≡ true → IsBegun n → last_of x (history past m) ≡ Some c → Watches jobs n x → Starts n
  watching_starts n m x c live begun some (always often) = carried_on m n begun (inl often) (writer_started m x c some)
  watching_starts n m x c live begun some (named (p, step, is)) = naming_starts n m x c live begun p step is some
  watching_starts n m x c live begun some (through {k = k} live_k (p, step, is) way) =
      carried_on k n begun (inr way) (naming_starts k m x c live_k (carries_begun jobs tie limit opening past valid run k n begun way) p step is some)
  watching_starts n m x c live begun some (written {w = w} last way) =
      let started = writer_started m x c some in
      carried_on w n begun (inr way) (elim (declared.last m w x (wrote jobs tie limit opening past m x c run some).0 last) [
        | inl same ↦ subst Starts same started
        | inr with ↦ carried_on m w (carries_begun jobs tie limit opening past valid run w n begun way) with started
      ])
  watching_starts n m x c live begun some (never {p = p} inside is nowhere) =
      let writes = subst (λ y. may_write jobs m y ≡ true) (sym is) (wrote jobs tie limit opening past m x c run some).0 in
      let makes = subst (λ k. may_write jobs k (name_of jobs p) ≡ true) (valid.own m p inside writes) writes in
      absurd (split (is_listed jobs p) (λ listed. false≢true (rw listed at nowhere)) (λ unlisted. false≢true (rw (unlisted, makes) at nowhere)))

  -- what was written and is an input of n, or written last by n, made n start
  input_starts : (n m : ℕ) (x : Name) (c : Option Bytes) → is_live jobs n ≡ true → IsBegun n → last_of x (history past m) ≡ Some c → IsInput jobs n x → Starts n
  input_starts n m x c live begun some input = elim (declared.watched n x input) [
    | inl tight ↦ absurd (false≢true (sym (declared.made m x (wrote jobs tie limit opening past m x c run some).0) ∙ tight))
    | inr watches ↦ watching_starts n m x c live begun some watches
  ]

  last_starts : (n m : ℕ) (x : Name) (c : Option Bytes) → IsBegun n → last_of x (history past m) ≡ Some c → IsLastWriter jobs n x → Starts n
  last_starts n m x c begun some last = elim (declared.last m n x (wrote jobs tie limit opening past m x c run some).0 last) [
    | inl same ↦ subst Starts same (writer_started m x c some)
    | inr with ↦ carried_on m n begun with (writer_started m x c some)
  ]

  -- so a name that would make an idle node start stands as at the opening
  stays_if : (n : ℕ) (x : Name) → is_started (phase past n) ≡ false → ((m : ℕ) (c : Option Bytes) → last_of x (history past m) ≡ Some c → Starts n) → bytes_of (store_after opening past x) ≡ bytes_of (opening x)
  stays_if n x idle wakes = elim (last_write jobs tie limit opening past x free run) [
    | inl untouched ↦ untouched.0
    | inr touched ↦ absurd (false≢true (sym idle ∙ wakes touched.writer _ touched.left))
  ]

  -- who has passed is settled
  pub passed_settled : AllKnown jobs programs opening → (n : ℕ) → is_live jobs n ≡ true → is_passed (phase past n) ≡ true → IsSettled jobs programs (store_after opening past) n
  passed_settled known n live passed = split (is_started (phase past n))
      (λ started.
      let did = worked n (ran_if _ started passed) in
      started_settled jobs tie limit opening free valid fixed declared programs past n run did.0 did.1 started)
      (λ idle.
      let begun = passed_begun _ passed in
      let old = known n live (λ will. false≢true (sym idle ∙ will_starts n begun will)) in
      record {
        start = old.start;
        history = old.history;
        does = old.does;
        afresh = old.afresh;
        inputs = λ x input. old.inputs x input ∙ sym (stays_if n x idle (λ m c some. input_starts n m x c live begun some input));
        stays = λ x last. stays_if n x idle (λ m c some. last_starts n m x c begun some last) ∙ old.stays x last;
      })

pub build_settles : BuildSettles
build_settles jobs programs fixed opening past valid free declared has known build stayed n live =
    let run = (run_is_schedule jobs build.tie build.limit opening past).1 (build.schedule, stayed, build.rise) in
    passed_settled jobs programs fixed opening past valid free declared has build.tie build.limit run (λ m ran. (build.follows m (ap is_started ran), build.afresh m (ap is_started ran)))
    known n live (build.complete n (live_node jobs n live))
