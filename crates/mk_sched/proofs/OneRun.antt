-- Facts about one run: what has passed is final, whose file a node's name is, who wrote a name last, and the moment at which
-- each act was allowed.
use Rattle.std.proofs.Common.{ℕ, ◌≡◌, ◌<◌, ◌==◌, ◌⊎◌, inl, inr, Bool, true, false, List, [], ◌∷◌, ◌++◌, Option, Some, None, refl, sym, ap, ◌∙◌, subst, eqb-true, eq-eqb}
use Rattle.std.proofs.lemmas.Bool.{false≢true, cases_eq, or_left, or_right, false_from_ne_true}
use Rattle.mk_name.specs.Names.{Name, same_name}
use Rattle.mk_jobs.specs.Jobs.{Jobs, IsValid, IsRaceFree, IsPrerequisite, Before, edge, further, node_count, name_of, may_write, may_touch}
use Rattle.mk_sched.specs.Stores.{Bytes, File, Store, bytes_of, must_run}
use Rattle.mk_sched.specs.Events.{Act, Skip, Start, Look, Put, Erase, Finish, Event, Running, entries, is_passed, is_started, acts_of, phase, phase_after, history, store_after}
use Rattle.mk_sched.specs.Runs.{May, IsRun, IsReady}
use Rattle.mk_sched.proofs.Basics.{split, split_option, same_name-true, is_begun, passed_begun, touch, last_of, written-untouched, last_of-untouched, last_of-touched, bytes_of-touched, LeftBy, LeftBy-weaker, LeftBy-act}

module _ (jobs : Jobs) (tie : Bool) (limit : ℕ) (opening : Store) where
  -- the act of an event of n was allowed to n
  pub may_own : (e : Event) (past : List Event) (n : ℕ) → IsRun jobs tie limit opening (e ∷ past) → (e.node == n) ≡ true → May jobs tie limit opening past n e.act
  may_own e past n run own = subst (λ k. May jobs tie limit opening past k e.act) (eqb-true _ _ own) run.1

  -- who may act has not passed
  pub open_if_may : (past : List Event) (n : ℕ) (a : Act) → May jobs tie limit opening past n a → is_passed (phase past n) ≡ false
  open_if_may past n Skip may = ap is_passed may.ready.waits
  open_if_may past n Start may = ap is_passed may.ready.waits
  open_if_may past n (Look path seen) may = ap is_passed may.runs
  open_if_may past n (Put path bytes time) may = ap is_passed may.runs
  open_if_may past n (Erase path) may = ap is_passed may.runs
  open_if_may past n Finish may = ap is_passed may

  -- who has passed acts no more
  pub passed_is_other : (e : Event) (past : List Event) (n : ℕ) → IsRun jobs tie limit opening (e ∷ past) → is_passed (phase past n) ≡ true → (e.node == n) ≡ false
  passed_is_other e past n run passed = split (e.node == n) (λ own. absurd (false≢true (sym (open_if_may past n e.act (may_own e past n run own)) ∙ passed))) (λ other. other)

  pub passed_acts : (e : Event) (past : List Event) (n : ℕ) → IsRun jobs tie limit opening (e ∷ past) → is_passed (phase past n) ≡ true → acts_of n (e ∷ past) ≡ acts_of n past
  passed_acts e past n run passed = rw (passed_is_other e past n run passed) refl

  pub passed_stays : (e : Event) (past : List Event) (n : ℕ) → IsRun jobs tie limit opening (e ∷ past) → is_passed (phase past n) ≡ true → is_passed (phase (e ∷ past) n) ≡ true
  passed_stays e past n run passed = ap (λ acts. is_passed (phase_after acts)) (passed_acts e past n run passed) ∙ passed

  -- who waits no more has had its prerequisites pass
  ready_act : (past : List Event) (n p : ℕ) (a : Act) → May jobs tie limit opening past n a → IsPrerequisite jobs p n → (is_begun (phase past n) ≡ true → is_passed (phase past p) ≡ true) → is_passed (phase past p) ≡ true
  ready_act past n p Skip may step earlier = may.ready.prerequisites p step
  ready_act past n p Start may step earlier = may.ready.prerequisites p step
  ready_act past n p (Look path seen) may step earlier = earlier (ap is_begun may.runs)
  ready_act past n p (Put path bytes time) may step earlier = earlier (ap is_begun may.runs)
  ready_act past n p (Erase path) may step earlier = earlier (ap is_begun may.runs)
  ready_act past n p Finish may step earlier = earlier (ap is_begun may)

  pub ready : (past : List Event) (n p : ℕ) → IsRun jobs tie limit opening past → IsPrerequisite jobs p n → is_begun (phase past n) ≡ true → is_passed (phase past p) ≡ true
  ready [] n p run step begun = begun
  ready (e ∷ past) n p run step begun =
      let earlier = ready past n p run.0 step in
      passed_stays e past p run (split (e.node == n)
      (λ own. ready_act past n p e.act (may_own e past n run own) step earlier)
      (λ other. earlier (rw other at begun)))

  -- and so have all nodes before it
  pub chain_passed : (past : List Event) (m n : ℕ) → IsRun jobs tie limit opening past → Before jobs m n → is_begun (phase past n) ≡ true → is_passed (phase past m) ≡ true
  chain_passed past m n run (edge p) begun = ready past n m run p begun
  chain_passed past m n run (further {b = b} chain p) begun = chain_passed past m b run chain (passed_begun (phase past b) (ready past n b run p begun))

  -- whoever acts waits no more, and who has started has started for good
  begun_after : (past : List Event) (n : ℕ) (a : Act) → May jobs tie limit opening past n a → is_begun (phase_after (a ∷ acts_of n past)) ≡ true
  begun_after past n Skip may = refl
  begun_after past n Start may = refl
  begun_after past n (Look path seen) may = ap is_begun may.runs
  begun_after past n (Put path bytes time) may = ap is_begun may.runs
  begun_after past n (Erase path) may = ap is_begun may.runs
  begun_after past n Finish may = refl

  started_after : (past : List Event) (n : ℕ) (a : Act) → May jobs tie limit opening past n a → is_started (phase past n) ≡ true → is_started (phase_after (a ∷ acts_of n past)) ≡ true
  started_after past n Skip may started = absurd (false≢true (sym (ap is_started may.ready.waits) ∙ started))
  started_after past n Start may started = refl
  started_after past n (Look path seen) may started = started
  started_after past n (Put path bytes time) may started = started
  started_after past n (Erase path) may started = started
  started_after past n Finish may started = refl

  pub started_stays : (e : Event) (past : List Event) (n : ℕ) → IsRun jobs tie limit opening (e ∷ past) → is_started (phase past n) ≡ true → is_started (phase (e ∷ past) n) ≡ true
  started_stays e past n run started = split (e.node == n) (λ own. rw own (started_after past n e.act (may_own e past n run own) started)) (λ other. rw other started)

  pub unstarted_before : (e : Event) (past : List Event) (n : ℕ) → IsRun jobs tie limit opening (e ∷ past) → is_started (phase (e ∷ past) n) ≡ false → is_started (phase past n) ≡ false
  unstarted_before e past n run idle = false_from_ne_true _ (λ started. false≢true (sym idle ∙ started_stays e past n run started))

  -- who writes x runs and may write x
  pub toucher : (past : List Event) (n : ℕ) (a : Act) (x : Name) (c : Option Bytes) → May jobs tie limit opening past n a → touch x a ≡ Some c → (phase past n ≡ Running) × (may_write jobs n x ≡ true)
  toucher past n Skip x c may some = cc
  toucher past n Start x c may some = cc
  toucher past n (Look path seen) x c may some = cc
  toucher past n (Put path bytes time) x c may some = split (same_name path x) (λ same. (may.runs, subst (λ y. may_write jobs n y ≡ true) (same_name-true path x same) may.writes)) (λ other. cc (rw other at some))
  toucher past n (Erase path) x c may some = split (same_name path x) (λ same. (may.runs, subst (λ y. may_write jobs n y ≡ true) (same_name-true path x same) may.writes)) (λ other. cc (rw other at some))
  toucher past n Finish x c may some = cc

  -- until a node starts, its own file is as at the opening
  pub own_file : (past : List Event) (n : ℕ) → IsValid jobs → IsRun jobs tie limit opening past → n < node_count jobs → is_started (phase past n) ≡ false → store_after opening past (name_of jobs n) ≡ opening (name_of jobs n)
  own_file [] n valid run inside idle = refl
  own_file (e ∷ past) n valid run inside idle =
      let before = unstarted_before e past n run idle in
      split_option (touch (name_of jobs n) e.act)
      (λ none. written-untouched (name_of jobs n) e.act (store_after opening past (name_of jobs n)) none ∙ own_file past n valid run.0 inside before)
      (λ c some.
      let t = toucher past e.node e.act (name_of jobs n) c run.1 some in
      let own : e.node ≡ n = valid.own e.node n inside t.1 in
      absurd (false≢true (sym before ∙ ap (λ k. is_started (phase past k)) (sym own) ∙ ap is_started t.0)))

  -- who has a write of x in its history may write x, and waits no more
  pub wrote : (past : List Event) (n : ℕ) (x : Name) (c : Option Bytes) → IsRun jobs tie limit opening past → last_of x (history past n) ≡ Some c → (may_write jobs n x ≡ true) × (is_begun (phase past n) ≡ true)
  wrote [] n x c run some = cc
  wrote (e ∷ past) n x c run some = split (e.node == n)
      (λ own. let may = may_own e past n run own in
      let writes : may_write jobs n x ≡ true = split_option (touch x e.act)
      (λ none. (wrote past n x c run.0 (sym (last_of-untouched x e.act (acts_of n past) none) ∙ (rw own at some))).0)
      (λ d touched. (toucher past n e.act x d may touched).1) in
      (writes, rw own (begun_after past n e.act may)))
      (λ other. let earlier = wrote past n x c run.0 (rw other at some) in (earlier.0, rw other earlier.1))

  -- the time is later than the file at the opening of each node that has not started
  abbrev pub IsLater : List Event → ℕ → Type 0
  IsLater past time = (m : ℕ) (file : File) → m < node_count jobs → is_started (phase past m) ≡ false → opening (name_of jobs m) ≡ Some file → file.time < time

  -- a put has such a time
  on_put : (e : Event) (past : List Event) (x : Name) → IsValid jobs → IsRun jobs tie limit opening (e ∷ past) → (bytes : Bytes) (time : ℕ) → e.act ≡ Put x bytes time → IsLater (e ∷ past) time
  on_put e past x valid run bytes time is m file inside idle opens =
      let may = subst (May jobs tie limit opening past e.node) is run.1 in
      may.newer (name_of jobs m) file (own_file past m valid run.0 inside (unstarted_before e past m run idle) ∙ opens)

  -- nobody else writes n's name
  pub own_untouched : (e : Event) (past : List Event) (n : ℕ) → IsValid jobs → IsRun jobs tie limit opening (e ∷ past) → n < node_count jobs → (e.node == n) ≡ false → touch (name_of jobs n) e.act ≡ None
  own_untouched e past n valid run inside other = split_option (touch (name_of jobs n) e.act) (λ none. none)
      (λ c some. absurd (false≢true (sym other ∙ eq-eqb _ _ (valid.own e.node n inside (toucher past e.node e.act (name_of jobs n) c run.1 some).1))))

  -- a node's own file, by its own history
  pub own_last : (past : List Event) (n : ℕ) → IsValid jobs → IsRun jobs tie limit opening past → n < node_count jobs → LeftBy (IsLater past) (opening (name_of jobs n)) (store_after opening past (name_of jobs n)) (last_of (name_of jobs n) (history past n))
  own_last [] n valid run inside = refl
  own_last (e ∷ past) n valid run inside =
      let x : Name = name_of jobs n in
      let earlier = LeftBy-weaker (IsLater past) (IsLater (e ∷ past)) (λ time later m file below idle opens. later m file below (unstarted_before e past m run idle) opens)
      (opening x) (store_after opening past x) (last_of x (history past n)) (own_last past n valid run.0 inside) in
      split (e.node == n)
      (λ own. rw own (LeftBy-act (IsLater (e ∷ past)) x e.act (acts_of n past) (opening x) (store_after opening past x) (on_put e past x valid run) earlier))
      (λ other. rw (other, written-untouched x e.act (store_after opening past x) (own_untouched e past n valid run inside other)) earlier)

  -- who has not passed and may touch x comes after all who wrote x
  pub after_writers : (past : List Event) (n m : ℕ) (x : Name) (c : Option Bytes) → IsRaceFree jobs → IsRun jobs tie limit opening past → is_passed (phase past n) ≡ false → may_touch jobs n x ≡ true → last_of x (history past m) ≡ Some c → (m ≡ n) ⊎ Before jobs m n
  after_writers past n m x c free run unpassed touches some =
      let w = wrote past m x c run some in
      elim (cases_eq m n) [
        | inl same ↦ inl same
        | inr different ↦ elim (free m n (x, record { different = different; first = or_right _ _ w.0; second = touches; written = or_left _ _ w.0 })) [
          | inl before ↦ inr before
          | inr after ↦ absurd (false≢true (sym unpassed ∙ chain_passed past n m run after w.1))
        ]
      ]

  -- no write to x so far
  abbrev pub IsUntouched : List Event → Name → Type 0
  IsUntouched past x = (bytes_of (store_after opening past x) ≡ bytes_of (opening x)) × ((m : ℕ) → last_of x (history past m) ≡ None)

  -- the node that wrote x last left what stands there, and all others that wrote x are before it
  pub record Touched (past : List Event) (x : Name) : Type 0 where
    pub writer : ℕ
    pub left : last_of x (history past writer) ≡ Some (bytes_of (store_after opening past x))
    pub others : (m : ℕ) (c : Option Bytes) → last_of x (history past m) ≡ Some c → (m ≡ writer) ⊎ Before jobs m writer

  last_of-kept : (e : Event) (past : List Event) (m : ℕ) (x : Name) → touch x e.act ≡ None → last_of x (history (e ∷ past) m) ≡ last_of x (history past m)
  last_of-kept e past m x none = split (e.node == m) (λ own. rw own (last_of-untouched x e.act (acts_of m past) none)) (λ other. rw other refl)

  pub last_write : (past : List Event) (x : Name) → IsRaceFree jobs → IsRun jobs tie limit opening past → IsUntouched past x ⊎ Touched past x
  last_write [] x free run = inl (refl, λ m. refl)
  last_write (e ∷ past) x free run =
      let now : Option File = store_after opening past x in
      split_option (touch x e.act)
      (λ none.
      let same = ap bytes_of (written-untouched x e.act now none) in
      elim (last_write past x free run.0) [
        | inl untouched ↦ inl (same ∙ untouched.0, λ m. last_of-kept e past m x none ∙ untouched.1 m)
        | inr touched ↦ inr (record {
          writer = touched.writer;
          left = last_of-kept e past touched.writer x none ∙ (touched.left ∙ ap Some (sym same));
          others = λ m c some. touched.others m c (sym (last_of-kept e past m x none) ∙ some);
        })
      ])
      (λ c some.
      let t = toucher past e.node e.act x c run.1 some in
      inr (record {
        writer = e.node;
        left = rw (eq-eqb e.node e.node refl) (last_of-touched x e.act (acts_of e.node past) c some ∙ ap Some (sym (bytes_of-touched x e.act now c some)));
        others = λ m d wrote_it. split (e.node == m)
            (λ own. inl (sym (eqb-true _ _ own)))
            (λ other. after_writers past e.node m x d free run.0 (open_if_may past e.node e.act run.1) (or_right _ _ t.1) (rw other at wrote_it));
      }))

  -- the acts of who had passed earlier are final
  abbrev pub IsFinal : List Event → List Event → Type 0
  IsFinal past earlier = (p : ℕ) → is_passed (phase earlier p) ≡ true → acts_of p past ≡ acts_of p earlier

  final_on : (e : Event) (past earlier : List Event) → IsRun jobs tie limit opening (e ∷ past) → IsFinal past earlier → IsFinal (e ∷ past) earlier
  final_on e past earlier run final p passed = passed_acts e past p run (ap (λ acts. is_passed (phase_after acts)) (final p passed) ∙ passed) ∙ final p passed

  -- the moment at which n was skipped or started: it was ready, and it started exactly if it had to run
  pub record Decided (past : List Event) (n : ℕ) : Type 0 where
    pub earlier : List Event
    pub run : IsRun jobs tie limit opening earlier
    pub ready : IsReady jobs earlier n
    pub chosen : is_started (phase past n) ≡ must_run jobs tie (store_after opening earlier) n
    pub final : IsFinal past earlier

  decided_on : (e : Event) (past : List Event) (n : ℕ) → IsRun jobs tie limit opening (e ∷ past) → Decided past n → is_started (phase (e ∷ past) n) ≡ is_started (phase past n) → Decided (e ∷ past) n
  decided_on e past n run old same = record { earlier = old.earlier; run = old.run; ready = old.ready; chosen = same ∙ old.chosen; final = final_on e past old.earlier run old.final }

  decided_act : (past : List Event) (n : ℕ) (a : Act) → May jobs tie limit opening past n a → (is_begun (phase past n) ≡ true → Decided past n)
      → (IsReady jobs past n × (is_started (phase_after (a ∷ acts_of n past)) ≡ must_run jobs tie (store_after opening past) n)) ⊎ (Decided past n × (is_started (phase_after (a ∷ acts_of n past)) ≡ is_started (phase past n)))
  decided_act past n Skip may old = inl (may.ready, sym may.fresh)
  decided_act past n Start may old = inl (may.ready, sym may.stale)
  decided_act past n (Look path seen) may old = inr (old (ap is_begun may.runs), refl)
  decided_act past n (Put path bytes time) may old = inr (old (ap is_begun may.runs), refl)
  decided_act past n (Erase path) may old = inr (old (ap is_begun may.runs), refl)
  decided_act past n Finish may old = inr (old (ap is_begun may), sym (ap is_started may))

  pub decided : (past : List Event) (n : ℕ) → IsRun jobs tie limit opening past → is_begun (phase past n) ≡ true → Decided past n
  decided [] n run begun = absurd (false≢true begun)
  decided (e ∷ past) n run begun = split (e.node == n)
      (λ own. elim (decided_act past n e.act (may_own e past n run own) (decided past n run.0)) [
        | inl new ↦ record { earlier = past; run = run.0; ready = new.0; chosen = rw own new.1; final = λ p passed. passed_acts e past p run passed }
        | inr old ↦ decided_on e past n run old.0 (rw own old.1)
      ])
      (λ other. decided_on e past n run (decided past n run.0 (rw other at begun)) (rw other refl))

  -- the moment at which n did this act, after these older ones
  pub record Moment (past : List Event) (n : ℕ) (a : Act) (older : List Act) : Type 0 where
    pub earlier : List Event
    pub run : IsRun jobs tie limit opening earlier
    pub may : May jobs tie limit opening earlier n a
    pub acts : acts_of n earlier ≡ older
    pub final : IsFinal past earlier

  moment_on : (e : Event) (past : List Event) (n : ℕ) (a : Act) (older : List Act) → IsRun jobs tie limit opening (e ∷ past) → Moment past n a older → Moment (e ∷ past) n a older
  moment_on e past n a older run old = record { earlier = old.earlier; run = old.run; may = old.may; acts = old.acts; final = final_on e past old.earlier run old.final }

  moment_own : (e : Event) (past : List Event) (n : ℕ) (newer : List Act) (a : Act) (older : List Act) → IsRun jobs tie limit opening (e ∷ past) → May jobs tie limit opening past n e.act
      → ((rest : List Act) → acts_of n past ≡ rest ++ a ∷ older → Moment past n a older) → e.act ∷ acts_of n past ≡ newer ++ a ∷ older → Moment (e ∷ past) n a older
  moment_own e past n [] a older run may old is =
      let first : e.act ≡ a = cc in
      let rest : acts_of n past ≡ older = cc in
      record { earlier = past; run = run.0; may = subst (May jobs tie limit opening past n) first may; acts = rest; final = λ p passed. passed_acts e past p run passed }
  moment_own e past n (b ∷ newer) a older run may old is = moment_on e past n a older run (old newer (cc))

  pub moment : (past : List Event) (n : ℕ) (newer : List Act) (a : Act) (older : List Act) → IsRun jobs tie limit opening past → acts_of n past ≡ newer ++ a ∷ older → Moment past n a older
  moment [] n [] a older run is = cc
  moment [] n (b ∷ newer) a older run is = cc
  moment (e ∷ past) n newer a older run is = split (e.node == n)
      (λ own. moment_own e past n newer a older run (may_own e past n run own) (λ rest. moment past n rest a older run.0) (rw own at is))
      (λ other. moment_on e past n a older run (moment past n newer a older run.0 (rw other at is)))

  -- who has not started has no history
  unstarted_act : (past : List Event) (n : ℕ) (a : Act) → May jobs tie limit opening past n a → is_started (phase_after (a ∷ acts_of n past)) ≡ false → entries (a ∷ acts_of n past) ≡ entries (acts_of n past)
  unstarted_act past n Skip may idle = refl
  unstarted_act past n Start may idle = refl
  unstarted_act past n (Look path seen) may idle = absurd (false≢true (sym idle ∙ ap is_started may.runs))
  unstarted_act past n (Put path bytes time) may idle = absurd (false≢true (sym idle ∙ ap is_started may.runs))
  unstarted_act past n (Erase path) may idle = absurd (false≢true (sym idle ∙ ap is_started may.runs))
  unstarted_act past n Finish may idle = refl

  pub unstarted_empty : (past : List Event) (n : ℕ) → IsRun jobs tie limit opening past → is_started (phase past n) ≡ false → history past n ≡ []
  unstarted_empty [] n run idle = refl
  unstarted_empty (e ∷ past) n run idle =
      let earlier = unstarted_empty past n run.0 (unstarted_before e past n run idle) in
      split (e.node == n)
      (λ own. rw own (unstarted_act past n e.act (may_own e past n run own) (rw own at idle) ∙ earlier))
      (λ other. rw other earlier)
