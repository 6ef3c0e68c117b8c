-- A schedule that stays is a run once its puts have rising times: the same nodes start, do the same, and leave the same bytes.
use Rattle.std.proofs.Common.{ℕ, suc, ◌≡◌, ◌<◌, ◌≤◌, ◌+◌, ◌==◌, ◌&&◌, ◌||◌, ◌⊎◌, inl, inr, Bool, true, false, List, [], ◌∷◌, Option, Some, refl, sym, ap, ◌∙◌, subst, arith, is_none, lt_trans}
use Rattle.std.proofs.lemmas.Bool.{and_parts}
use Rattle.mk_name.specs.Names.{Name, same_name}
use Rattle.mk_jobs.specs.Jobs.{Jobs, IsValid, node_count, name_of, prerequisites_of, has_recipe, is_phony}
use Rattle.mk_sched.specs.Stores.{Bytes, File, Store, bytes_of, must_run}
use Rattle.mk_sched.specs.Events.{Act, Skip, Start, Look, Put, Erase, Finish, Event, Waiting, is_passed, is_started, is_running, acts_of, phase, history, store_after, written, running_below}
use Rattle.mk_sched.specs.Runs.{May, IsRun, IsReady}
use Rattle.mk_sched.specs.Refusals.{is_within}
use Rattle.mk_sched.specs.Schedules.{Can, IsSchedule, stays}
use Rattle.mk_sched.specs.Serial.{timed, put_count, puts}
use Rattle.mk_sched.specs.Serialising.{retimed}
use Rattle.mk_sched.specs.Steps.{steps_at}
use Rattle.mk_sched.proofs.Basics.{split, split_option, touch, last_of, list_any-alike, written-untouched, LeftBy, LeftBy-weaker, LeftBy-act}
use Rattle.mk_sched.proofs.OneRun.{IsLater, own_file, own_last, own_untouched, unstarted_before, unstarted_empty}
use Rattle.mk_sched.proofs.TwoRuns.{outdates-alike}
use Rattle.mk_sched.proofs.Moving.{count_to-same}
use Rattle.mk_sched.proofs.InOrder.{SameActs, SameActs-timed}

-- a put with another time writes the same
touch-timed : (x : Name) (time : ℕ) (a : Act) → touch x (timed time a) ≡ touch x a
touch-timed x time Skip = refl
touch-timed x time Start = refl
touch-timed x time (Look path seen) = refl
touch-timed x time (Put path bytes old) = refl
touch-timed x time (Erase path) = refl
touch-timed x time Finish = refl

bytes-timed : (x : Name) (time : ℕ) (a : Act) (now was : Option File) → bytes_of now ≡ bytes_of was → bytes_of (written (timed time a) x now) ≡ bytes_of (written a x was)
bytes-timed x time Skip now was same = same
bytes-timed x time Start now was same = same
bytes-timed x time (Look path seen) now was same = same
bytes-timed x time (Put path bytes old) now was same = split (same_name path x) (λ here. rw here refl) (λ other. rw other same)
bytes-timed x time (Erase path) now was same = split (same_name path x) (λ here. rw here refl) (λ other. rw other same)
bytes-timed x time Finish now was same = same

-- what was written has at most the time of the put
time_of-written : (x : Name) (last count : ℕ) (a : Act) (old : Option File) (c : Option Bytes) (file : File) → touch x a ≡ Some c
    → written (timed (last + suc count) a) x old ≡ Some file → file.time ≤ last + (put_count (timed (last + suc count) a) + count)
time_of-written x last count Skip old c file some is = cc
time_of-written x last count Start old c file some is = cc
time_of-written x last count (Look path seen) old c file some is = cc
time_of-written x last count (Put path bytes time) old c file some is = split (same_name path x)
    (λ here. let at : file.time ≡ last + suc count = cc (rw here at is) in omega arith)
    (λ other. cc (rw other at some))
time_of-written x last count (Erase path) old c file some is = split (same_name path x) (λ here. cc (rw here at is)) (λ other. cc (rw other at some))
time_of-written x last count Finish old c file some is = cc

-- no put of an act, and of a past, has a time above this one
abbrev IsUpTo : ℕ → Act → Type 0
IsUpTo last Skip = Unit {0}
IsUpTo last Start = Unit {0}
IsUpTo last (Look path seen) = Unit {0}
IsUpTo last (Put path bytes time) = time ≤ last
IsUpTo last (Erase path) = Unit {0}
IsUpTo last Finish = Unit {0}

abbrev AreUpTo : ℕ → List Event → Type 0
AreUpTo last [] = Unit {0}
AreUpTo last (e ∷ past) = AreUpTo last past × IsUpTo last e.act

-- the sum of all times is such a time
abbrev time_of : Act → ℕ
time_of Skip = 0
time_of Start = 0
time_of (Look path seen) = 0
time_of (Put path bytes time) = time
time_of (Erase path) = 0
time_of Finish = 0

abbrev pub all_times : List Event → ℕ
all_times [] = 0
all_times (e ∷ past) = time_of e.act + all_times past

up_to_act : (last : ℕ) (a : Act) → time_of a ≤ last → IsUpTo last a
up_to_act last Skip le = tt
up_to_act last Start le = tt
up_to_act last (Look path seen) le = tt
up_to_act last (Put path bytes time) le = le
up_to_act last (Erase path) le = tt
up_to_act last Finish le = tt

up_to_all : (last : ℕ) (past : List Event) → all_times past ≤ last → AreUpTo last past
up_to_all last [] le = tt
up_to_all last (e ∷ past) le = (up_to_all last past (omega arith), up_to_act last e.act (omega arith))

module _ (jobs : Jobs) (tie : Bool) (limit : ℕ) (opening : Store) (last : ℕ) (valid : IsValid jobs) where
  -- the time is later than the file at the opening of each node that has not started
  abbrev IsLaterThere : List Event → ℕ → Type 0
  IsLaterThere past time = (m : ℕ) (file : File) → m < node_count jobs → is_started (phase past m) ≡ false → opening (name_of jobs m) ≡ Some file → file.time < time

  -- what a schedule and its list with rising times have in common
  pub record Retimed (past : List Event) : Type 0 where
    pub run : IsRun jobs tie limit opening (retimed last past)
    pub acts : (n : ℕ) → SameActs (acts_of n (retimed last past)) (acts_of n past)
    pub files : (x : Name) → bytes_of (store_after opening (retimed last past) x) ≡ bytes_of (store_after opening past x)
    pub rise : (x : Name) → ((store_after opening (retimed last past) x ≡ opening x) × (store_after opening past x ≡ opening x))
        ⊎ ((file : File) → store_after opening (retimed last past) x ≡ Some file → file.time ≤ last + puts (retimed last past))
    pub own : (n : ℕ) → n < node_count jobs → LeftBy (IsLaterThere past) (opening (name_of jobs n)) (store_after opening past (name_of jobs n)) (last_of (name_of jobs n) (history past n))

  module _ (past : List Event) (was : Retimed past) where
    -- until a node starts, its own file is as at the opening
    own_as_opened : (n : ℕ) → n < node_count jobs → is_started (phase past n) ≡ false → store_after opening past (name_of jobs n) ≡ opening (name_of jobs n)
    own_as_opened n inside idle =
        let none : history past n ≡ [] = sym (was.acts n).histories ∙ unstarted_empty jobs tie limit opening (retimed last past) n was.run (ap is_started (was.acts n).phases ∙ idle) in
        subst (λ h. LeftBy (IsLaterThere past) (opening (name_of jobs n)) (store_after opening past (name_of jobs n)) (last_of (name_of jobs n) h)) none (was.own n inside)

    -- a node that waits must run in both or in neither
    must_alike : (n : ℕ) → n < node_count jobs → phase past n ≡ Waiting → must_run jobs tie (store_after opening (retimed last past)) n ≡ must_run jobs tie (store_after opening past) n
    must_alike n inside waits =
        let idle : is_started (phase past n) ≡ false = ap is_started waits in
        let idle_too : is_started (phase (retimed last past) n) ≡ false = ap is_started (was.acts n).phases ∙ idle in
        let own_too : store_after opening (retimed last past) (name_of jobs n) ≡ opening (name_of jobs n) = own_file jobs tie limit opening (retimed last past) n valid was.run inside idle_too in
        let own : store_after opening past (name_of jobs n) ≡ opening (name_of jobs n) = own_as_opened n inside idle in
        rw (own_too, own) (ap (λ rest. has_recipe jobs n && (is_phony jobs n || is_none (opening (name_of jobs n)) || rest))
        (list_any-alike _ _ (prerequisites_of jobs n) (λ p step.
        let below : p < node_count jobs = lt_trans (valid.smaller n p step) inside in
        ap (λ rest. is_phony jobs p || rest)
        (outdates-alike tie (opening (name_of jobs n)) (opening (name_of jobs p)) (store_after opening (retimed last past) (name_of jobs p)) (store_after opening past (name_of jobs p))
        (IsLater jobs tie limit opening (retimed last past)) (IsLaterThere past) (last_of (name_of jobs p) (history past p))
        (subst (λ h. LeftBy (IsLater jobs tie limit opening (retimed last past)) (opening (name_of jobs p)) (store_after opening (retimed last past) (name_of jobs p)) (last_of (name_of jobs p) h))
        (was.acts p).histories (own_last jobs tie limit opening (retimed last past) p valid was.run below))
        (was.own p below)
        (λ file time is later. later n file inside idle_too is)
        (λ file time is later. later n file inside idle is)))))

    ready_too : (n : ℕ) → IsReady jobs past n → IsReady jobs (retimed last past) n
    ready_too n ready = record {
      in_jobs = ready.in_jobs;
      waits = (was.acts n).phases ∙ ready.waits;
      prerequisites = λ p step. ap is_passed (was.acts p).phases ∙ ready.prerequisites p step;
    }

    running_too : running_below (retimed last past) (node_count jobs) ≡ running_below past (node_count jobs)
    running_too = count_to-same _ _ (node_count jobs) (λ k below. ap is_running (was.acts k).phases)

    may_too : (n : ℕ) (a : Act) → Can jobs tie limit opening past n a → is_within jobs n a ≡ true → IsUpTo last a
        → May jobs tie limit opening (retimed last past) n (timed (last + suc (puts (retimed last past))) a)
    may_too n Skip can within up = record { ready = ready_too n can.ready; fresh = must_alike n can.ready.in_jobs can.ready.waits ∙ can.fresh }
    may_too n Start can within up = record {
      ready = ready_too n can.ready;
      stale = must_alike n can.ready.in_jobs can.ready.waits ∙ can.stale;
      room = subst (λ k. k < limit) (sym running_too) can.room;
    }
    may_too n (Look path seen) can within up = record { runs = (was.acts n).phases ∙ can.0; reads = within; reports = can.1 ∙ sym (was.files path) }
    may_too n (Put path bytes time) can within up = record {
      runs = (was.acts n).phases ∙ can.0;
      writes = within;
      newer = λ x file is. elim (was.rise x) [
        | inl kept ↦ let older = can.1 x file (sym kept.0 ∙ is) (kept.1 ∙ (sym kept.0 ∙ is)) in omega (arith, older, up)
        | inr low ↦ let le = low file is in omega (arith, le)
      ];
    }
    may_too n (Erase path) can within up = record { runs = (was.acts n).phases ∙ can; writes = within }
    may_too n Finish can within up = (was.acts n).phases ∙ can

  module _ (e : Event) (past : List Event) (was : Retimed past) (can : Can jobs tie limit opening past e.node e.act)
      (run : IsRun jobs tie limit opening (retimed last (e ∷ past))) (acts : (n : ℕ) → SameActs (acts_of n (retimed last (e ∷ past))) (acts_of n (e ∷ past))) where
    unstarted_there : (m : ℕ) → is_started (phase (e ∷ past) m) ≡ false → is_started (phase past m) ≡ false
    unstarted_there m idle =
        sym (ap is_started (was.acts m).phases)
        ∙ unstarted_before jobs tie limit opening (steps_at (last + suc (puts (retimed last past))) e) (retimed last past) m run (ap is_started (acts m).phases ∙ idle)

    put_later : (x : Name) (bytes : Bytes) (time : ℕ) → e.act ≡ Put x bytes time → IsLaterThere (e ∷ past) time
    put_later x bytes time is m file below idle opens =
        let new = subst (Can jobs tie limit opening past e.node) is can in
        new.1 (name_of jobs m) file opens (own_as_opened past was m below (unstarted_there m idle) ∙ opens)

    own_on : (n : ℕ) → n < node_count jobs → LeftBy (IsLaterThere (e ∷ past)) (opening (name_of jobs n)) (store_after opening (e ∷ past) (name_of jobs n)) (last_of (name_of jobs n) (history (e ∷ past) n))
    own_on n inside =
        let x : Name = name_of jobs n in
        let earlier = LeftBy-weaker (IsLaterThere past) (IsLaterThere (e ∷ past)) (λ time later m file below idle opens. later m file below (unstarted_there m idle) opens)
        (opening x) (store_after opening past x) (last_of x (history past n)) (was.own n inside) in
        split (e.node == n)
        (λ mine. rw mine (LeftBy-act (IsLaterThere (e ∷ past)) x e.act (acts_of n past) (opening x) (store_after opening past x) (put_later x) earlier))
        (λ other.
        let none = sym (touch-timed x (last + suc (puts (retimed last past))) e.act)
        ∙ own_untouched jobs tie limit opening (steps_at (last + suc (puts (retimed last past))) e) (retimed last past) n valid run inside other in
        rw (other, written-untouched x e.act (store_after opening past x) none) earlier)

    rise_on : (x : Name) → ((store_after opening (retimed last (e ∷ past)) x ≡ opening x) × (store_after opening (e ∷ past) x ≡ opening x))
        ⊎ ((file : File) → store_after opening (retimed last (e ∷ past)) x ≡ Some file → file.time ≤ last + puts (retimed last (e ∷ past)))
    rise_on x =
        let time : ℕ = last + suc (puts (retimed last past)) in
        let now : Option File = store_after opening (retimed last past) x in
        split_option (touch x e.act)
        (λ none.
        let kept = written-untouched x (timed time e.act) now (touch-timed x time e.act ∙ none) in
        elim (was.rise x) [
          | inl same ↦ inl (kept ∙ same.0, written-untouched x e.act (store_after opening past x) none ∙ same.1)
          | inr low ↦ inr (λ file is. let le = low file (sym kept ∙ is) in omega (arith, le))
        ])
        (λ c some. inr (λ file is. time_of-written x last (puts (retimed last past)) e.act now c file some is))

  pub retime : (past : List Event) → IsSchedule jobs tie limit opening past → stays jobs past ≡ true → AreUpTo last past → Retimed past
  retime [] schedule within up = record {
    run = tt;
    acts = λ n. record { phases = refl; histories = refl };
    files = λ x. refl;
    rise = λ x. inl (refl, refl);
    own = λ n inside. refl;
  }
  retime (e ∷ past) schedule within up =
      let both = and_parts (is_within jobs e.node e.act) (stays jobs past) within in
      let was = retime past schedule.0 both.1 up.0 in
      let time : ℕ = last + suc (puts (retimed last past)) in
      let run : IsRun jobs tie limit opening (retimed last (e ∷ past)) = (was.run, may_too past was e.node e.act schedule.1 both.0 up.1) in
      let acts = λ (n : ℕ). split {X = SameActs (acts_of n (retimed last (e ∷ past))) (acts_of n (e ∷ past))} (e.node == n)
      (λ own. rw own (SameActs-timed time e.act (acts_of n (retimed last past)) (acts_of n past) (was.acts n))) (λ other. rw other (was.acts n)) in
      record {
        run = run;
        acts = acts;
        files = λ x. bytes-timed x time e.act (store_after opening (retimed last past) x) (store_after opening past x) (was.files x);
        rise = rise_on e past was schedule.1 run acts;
        own = own_on e past was schedule.1 run acts;
      }

-- with all its times summed up as the last one
pub in_rising_time : (jobs : Jobs) (tie : Bool) (limit : ℕ) (opening : Store) (past : List Event) → (valid : IsValid jobs) → IsSchedule jobs tie limit opening past → stays jobs past ≡ true
    → Retimed jobs tie limit opening (all_times past) valid past
in_rising_time jobs tie limit opening past valid schedule within = retime jobs tie limit opening (all_times past) valid past schedule within (up_to_all (all_times past) past (omega arith))
