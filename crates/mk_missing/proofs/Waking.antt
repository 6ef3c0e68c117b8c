-- Which nodes run: those that are stale when they are decided on, and those to which one that runs carries.
use Rattle.std.proofs.Common.{ℕ, zero, suc, ◌≡◌, ◌<◌, ◌||◌, nat_lt, Bool, true, false, List, [], ◌∷◌, Option, Some, None, refl, sym, ap, ◌∙◌, subst, is_none, is_some, Contains, lt-ltb, lt_trans, arith}
use Rattle.std.specs.List.{list_any}
use Rattle.std.proofs.lemmas.Bool.{false≢true, and_parts, or_left, or_right}
use Rattle.std.proofs.lemmas.List.Elements.{Contains-append_right}
use Rattle.mk_name.specs.Names.{Name, same_name}
use Rattle.mk_jobs.specs.Jobs.{Jobs, IsValid, IsPrerequisite, node_count, name_of, prerequisites_of, has_recipe, is_live, is_phony, is_listed}
use Rattle.mk_jobs.proofs.JobsLemmas.{live_node}
use Rattle.mk_sched.specs.Stores.{Bytes, File, Store, bytes_of, is_stale, outdates}
use Rattle.mk_sched.specs.Events.{Event, HistoryLine, Looked, Wrote, Ran, entries, is_started, phase, history, store_after}
use Rattle.mk_sched.specs.Runs.{IsRun}
use Rattle.mk_sched.proofs.Basics.{split, split_option, is_begun, passed_begun, ran_if, last_of, LeftBy, LeftBy-weaker}
use Rattle.mk_sched.proofs.OneRun.{own_file, own_last, ready, IsLater, Decided, decided}
use Rattle.mk_missing.specs.Watching.{makes_own, is_never_there, RunsAlways, itself, needs, behind, Carries, edge, further}
use Rattle.mk_missing.specs.Doings.{has_write, IsAfresh, found_by}
use Rattle.mk_missing.specs.Incremental.{HasSources}
use Rattle.mk_missing.specs.Laws.{WillRun, stale, carried}

-- an element that passes is found, and what is found is such an element
pub found : {X : Type 0} (p : X → Bool) (xs : List X) (x : X) → Contains xs x → p x ≡ true → list_any p xs ≡ true
found p [] x (k, less, is) pass = absurd (omega arith)
found p (y ∷ ys) x (zero, less, is) pass = or_left _ _ (ap p is ∙ pass)
found p (y ∷ ys) x (suc k, less, is) pass = or_right _ _ (found p ys x (k, omega arith, is) pass)

pub one_passes : {X : Type 0} (p : X → Bool) (xs : List X) → list_any p xs ≡ true → (x : X) × Contains xs x × (p x ≡ true)
one_passes p [] some = absurd (false≢true some)
one_passes p (x ∷ xs) some = split (p x)
    (λ here. (x, (0, omega arith, refl), here))
    (λ other. let rest = one_passes p xs (rw other at some) in (rest.0, Contains-append_right (x ∷ []) xs rest.0 rest.1, rest.2))

pub absent_if : {A : Type 0} (file : Option A) → is_some file ≡ false → file ≡ None
absent_if None none = refl
absent_if (Some file) none = cc

module _ (jobs : Jobs) where
  -- a node is stale if it is phony, or absent, or if one prerequisite makes each file of its own out of date
  pub phony_stale : (tie : Bool) (store : Store) (n : ℕ) → is_phony jobs n ≡ true → is_stale jobs tie store n ≡ true
  phony_stale tie store n phony = or_left _ _ (or_left _ _ phony)

  pub absent_stale : (tie : Bool) (store : Store) (n : ℕ) → store (name_of jobs n) ≡ None → is_stale jobs tie store n ≡ true
  absent_stale tie store n none = or_left _ _ (or_right _ _ (ap is_none none))

  pub stale_by : (tie : Bool) (store : Store) (n p : ℕ) → IsPrerequisite jobs p n
      → ((own : File) → store (name_of jobs n) ≡ Some own → is_phony jobs p || outdates tie (Some own) (store (name_of jobs p)) ≡ true) → is_stale jobs tie store n ≡ true
  stale_by tie store n p step old = split_option (store (name_of jobs n))
      (λ none. absent_stale tie store n none)
      (λ own some. or_right _ _ (found (λ q. is_phony jobs q || outdates tie (store (name_of jobs n)) (store (name_of jobs q))) (prerequisites_of jobs n) p step
      (subst (λ file. is_phony jobs p || outdates tie file (store (name_of jobs p)) ≡ true) (sym some) (old own some))))

  -- what is never there is absent from a store with the sources
  pub never_there : (store : Store) (p : ℕ) → HasSources jobs store → p < node_count jobs → is_never_there jobs p ≡ true → store (name_of jobs p) ≡ None
  never_there store p has inside nowhere = split (is_listed jobs p)
      (λ listed. absurd (false≢true (rw listed at nowhere)))
      (λ unlisted. split (makes_own jobs p)
      (λ makes. absurd (false≢true (rw (unlisted, makes) at nowhere)))
      (λ other. absent_if _ (has p inside other ∙ unlisted)))

  -- who runs always will run
  pub will_always : (store : Store) (n : ℕ) → IsValid jobs → HasSources jobs store → RunsAlways jobs n → WillRun jobs store n
  will_always store n valid has (itself live restless) = stale live (split (is_phony jobs n)
      (λ phony. phony_stale false store n phony)
      (λ plain. absent_stale false store n (never_there store n has (live_node jobs n live) (rw plain at restless))))
  will_always store n valid has (needs {p = p} live step restless) = stale live (stale_by false store n p step (λ own some. split (is_phony jobs p)
      (λ phony. or_left _ _ phony)
      (λ plain. or_right _ _ (ap (outdates false (Some own)) (never_there store p has (lt_trans (valid.smaller n p step) (live_node jobs n live)) (rw plain at restless))))))
  will_always store n valid has (behind {p = p} live step often makes) = carried (will_always store p valid has often) (edge live step makes)

-- a write by the prerequisite's own node makes the own file out of date
pub wrote_outdates : (tie : Bool) (own : File) (start now : Option File) (c : Option Bytes) → LeftBy (λ time. own.time < time) start now (Some c) → outdates tie (Some own) now ≡ true
wrote_outdates tie own start now None left = ap (outdates tie (Some own)) left
wrote_outdates tie own start now (Some bytes) left = ap (outdates tie (Some own)) left.1 ∙ or_left _ _ (lt-ltb own.time left.0 left.2)

-- what made it out of date without equal times still does, whatever that node did
newer_outdates : (tie : Bool) (own : File) (other : Option File) → outdates false (Some own) other ≡ true → outdates tie (Some own) other ≡ true
newer_outdates tie own None old = refl
newer_outdates tie own (Some other) old = split (nat_lt own.time other.time) (λ less. or_left _ _ less) (λ not_less. absurd (false≢true (rw not_less at old)))

still_outdates : (tie : Bool) (own : File) (start now : Option File) (last : Option (Option Bytes)) → LeftBy (λ time. own.time < time) start now last → outdates false (Some own) start ≡ true → outdates tie (Some own) now ≡ true
still_outdates tie own start now None left old = ap (outdates tie (Some own)) left ∙ newer_outdates tie own start old
still_outdates tie own start now (Some c) left old = wrote_outdates tie own start now c left

-- a history with a write has a last one
pub last_written : (x : Name) (es : List HistoryLine) → has_write x es ≡ true → (c : Option Bytes) × (last_of x es ≡ Some c)
last_written x [] some = absurd (false≢true some)
last_written x (Looked path seen ∷ es) some = last_written x es some
last_written x (Wrote path left ∷ es) some = split (same_name path x)
    (λ same. (left, rw same refl))
    (λ other. let earlier = last_written x es (rw other at some) in (earlier.0, rw other earlier.1))

module _ (jobs : Jobs) (tie : Bool) (limit : ℕ) (opening : Store) (past : List Event) (valid : IsValid jobs) (run : IsRun jobs tie limit opening past) where
  -- n is decided on: it waits no more
  abbrev IsBegun : ℕ → Type 0
  IsBegun n = is_begun (phase past n) ≡ true

  decision : (n : ℕ) → IsBegun n → Decided jobs tie limit opening past n
  decision n begun = decided jobs tie limit opening past n run begun

  -- a live node that is stale when it is decided on has started
  starts_if : (n : ℕ) → is_live jobs n ≡ true → (begun : IsBegun n) → is_stale jobs tie (store_after opening (decision n begun).earlier) n ≡ true → is_started (phase past n) ≡ true
  starts_if n live begun old = let d = decision n begun in d.chosen ∙ rw ((and_parts (has_recipe jobs n) _ live).0, old) refl

  -- its own file is then as at the opening
  own_now : (n : ℕ) → is_live jobs n ≡ true → (begun : IsBegun n) → store_after opening (decision n begun).earlier (name_of jobs n) ≡ opening (name_of jobs n)
  own_now n live begun = let d = decision n begun in own_file jobs tie limit opening d.earlier n valid d.run (live_node jobs n live) (ap is_started d.ready.waits)

  -- and a prerequisite's file is what its own node left, which is newer than the node's file if it was put
  step_now : (n p : ℕ) → is_live jobs n ≡ true → (begun : IsBegun n) → IsPrerequisite jobs p n → (own : File) → opening (name_of jobs n) ≡ Some own
      → LeftBy (λ time. own.time < time) (opening (name_of jobs p)) (store_after opening (decision n begun).earlier (name_of jobs p)) (last_of (name_of jobs p) (history past p))
  step_now n p live begun step own some =
      let d = decision n begun in
      let inside = live_node jobs n live in
      let left = own_last jobs tie limit opening d.earlier p valid d.run (lt_trans (valid.smaller n p step) inside) in
      let late = LeftBy-weaker (IsLater jobs tie limit opening d.earlier) (λ time. own.time < time) (λ time later. later n own inside (ap is_started d.ready.waits) some) _ _ _ left in
      subst (λ acts. LeftBy (λ time. own.time < time) (opening (name_of jobs p)) (store_after opening d.earlier (name_of jobs p)) (last_of (name_of jobs p) (entries acts))) (sym (d.final p (d.ready.prerequisites p step))) late

  -- a node whose prerequisite's file was written by its own node has started
  pub put_wakes : (n p : ℕ) (c : Option Bytes) → is_live jobs n ≡ true → IsBegun n → IsPrerequisite jobs p n → last_of (name_of jobs p) (history past p) ≡ Some c → is_started (phase past n) ≡ true
  put_wakes n p c live begun step some =
      let d = decision n begun in
      starts_if n live begun (stale_by jobs tie (store_after opening d.earlier) n p step (λ own here. or_right _ _ (
      let opened : opening (name_of jobs n) ≡ Some own = sym (own_now n live begun) ∙ here in
      let left = subst (LeftBy (λ time. own.time < time) (opening (name_of jobs p)) (store_after opening d.earlier (name_of jobs p))) some (step_now n p live begun step own opened) in
      wrote_outdates tie own (opening (name_of jobs p)) (store_after opening d.earlier (name_of jobs p)) c left)))

  -- a node that is stale at the opening, where equal times do not count, has started
  stale_starts : (n : ℕ) → is_live jobs n ≡ true → IsBegun n → is_stale jobs false opening n ≡ true → is_started (phase past n) ≡ true
  stale_starts n live begun old =
      let d = decision n begun in
      starts_if n live begun (split (is_phony jobs n)
      (λ phony. phony_stale jobs tie (store_after opening d.earlier) n phony)
      (λ plain. split_option (opening (name_of jobs n))
      (λ none. absent_stale jobs tie (store_after opening d.earlier) n (own_now n live begun ∙ none))
      (λ own some.
      let newer = one_passes _ (prerequisites_of jobs n) (rw (plain, some) at old) in
      let p = newer.0 in
      stale_by jobs tie (store_after opening d.earlier) n p newer.1 (λ file here. split (is_phony jobs p)
      (λ phony. or_left _ _ phony)
      (λ other.
      let both : Some own ≡ Some file = sym some ∙ sym (own_now n live begun) ∙ here in
      let same : own ≡ file = cc in
      or_right _ _ (subst (λ f. outdates tie (Some f) (store_after opening d.earlier (name_of jobs p)) ≡ true) same (still_outdates tie own (opening (name_of jobs p)) (store_after opening d.earlier (name_of jobs p)) (last_of (name_of jobs p) (history past p)) (step_now n p live begun newer.1 own some) (rw other at newer.2))))))))

  -- a node whose prerequisite's file is absent at the opening has started
  gone_wakes : (n p : ℕ) → is_live jobs n ≡ true → IsBegun n → IsPrerequisite jobs p n → opening (name_of jobs p) ≡ None → is_started (phase past n) ≡ true
  gone_wakes n p live begun step none =
      let d = decision n begun in
      starts_if n live begun (stale_by jobs tie (store_after opening d.earlier) n p step (λ own here. or_right _ _
      (still_outdates tie own (opening (name_of jobs p)) (store_after opening d.earlier (name_of jobs p)) (last_of (name_of jobs p) (history past p)) (step_now n p live begun step own (sym (own_now n live begun) ∙ here))
      (ap (outdates false (Some own)) none))))

  -- what a node found of its own file is that of the opening
  own_found : (earlier : List Event) (n : ℕ) → IsRun jobs tie limit opening earlier → n < node_count jobs → found_by opening earlier n (name_of jobs n) ≡ bytes_of (opening (name_of jobs n))
  own_found [] n so_far inside = refl
  own_found (e ∷ earlier) n so_far inside = split (is_started (phase earlier n))
      (λ started. rw started (own_found earlier n so_far.0 inside))
      (λ idle. rw idle (ap bytes_of (own_file jobs tie limit opening earlier n valid so_far.0 inside idle)))

  -- a prerequisite of who waits no more has passed, and so has who carries to it
  needed_begun : (n p : ℕ) → IsBegun n → IsPrerequisite jobs p n → IsBegun p
  needed_begun n p begun step = passed_begun _ (ready jobs tie limit opening past n p run step begun)

  pub carries_begun : (m n : ℕ) → IsBegun n → Carries jobs m n → IsBegun m
  carries_begun m n begun (edge live step makes) = needed_begun n m begun step
  carries_begun m n begun (further {k = k} way live step makes) = carries_begun m k (needed_begun n k begun step) way

  module _ (afresh : (m : ℕ) → phase past m ≡ Ran → IsAfresh jobs m (found_by opening past m) (history past m)) where
    -- who makes its own file wakes each node that needs it
    maker_wakes : (n m : ℕ) → is_live jobs n ≡ true → IsBegun n → IsPrerequisite jobs m n → makes_own jobs m ≡ true → is_started (phase past m) ≡ true → is_started (phase past n) ≡ true
    maker_wakes n m live begun step makes started = split_option (opening (name_of jobs m))
        (λ none. gone_wakes n m live begun step none)
        (λ file some.
        let there : is_some (found_by opening past m (name_of jobs m)) ≡ true = ap is_some (own_found past m run (lt_trans (valid.smaller n m step) (live_node jobs n live)) ∙ ap bytes_of some) in
        let ran = ran_if _ started (ready jobs tie limit opening past n m run step begun) in
        let written = last_written (name_of jobs m) (history past m) ((afresh m ran).rest (name_of jobs m) makes there) in
        put_wakes n m written.0 live begun step written.1)

    pub carries_starts : (m n : ℕ) → IsBegun n → Carries jobs m n → is_started (phase past m) ≡ true → is_started (phase past n) ≡ true
    carries_starts m n begun (edge live step makes) started = maker_wakes n m live begun step makes started
    carries_starts m n begun (further {k = k} way live step makes) started = maker_wakes n k live begun step makes (carries_starts m k (needed_begun n k begun step) way started)

    -- who will run has started, if it waits no more
    pub will_start : (n : ℕ) → IsBegun n → WillRun jobs opening n → is_started (phase past n) ≡ true
    will_start n begun (stale live old) = stale_starts n live begun old
    will_start n begun (carried {m = m} will way) = carries_starts m n begun way (will_start m (carries_begun m n begun way) will)
