-- What a node did in a run of race-free jobs it did alone, from the contents that stood there when it started. So who started is settled.
use Rattle.std.proofs.Common.{ℕ, ◌≡◌, ◌==◌, ◌⊎◌, inl, inr, Bool, true, false, List, [], ◌∷◌, refl, sym, ap, ◌∙◌, subst, subst₂, reverse, eq-eqb, if◌then◌else◌, arith}
use Rattle.std.proofs.lemmas.Bool.{false≢true, or_left, or_right}
use Rattle.mk_name.specs.Names.{Name, same_name}
use Rattle.mk_jobs.specs.Jobs.{Jobs, IsValid, IsRaceFree, Before, may_write, may_touch}
use Rattle.mk_jobs.proofs.JobsLemmas.{before_less}
use Rattle.mk_sched.specs.Stores.{Store, bytes_of}
use Rattle.mk_sched.specs.Events.{Act, Skip, Start, Look, Put, Erase, Finish, Event, HistoryLine, Looked, Wrote, Running, entries, is_passed, is_started, acts_of, phase, phase_after, history, store_after, written}
use Rattle.mk_sched.specs.Runs.{May, IsRun}
use Rattle.mk_sched.specs.Programs.{Program, Follows}
use Rattle.mk_sched.proofs.Basics.{split, split_option, is_begun, started_begun, same_name-true, touch, written-untouched}
use Rattle.mk_sched.proofs.OneRun.{may_own, toucher, chain_passed, unstarted_empty}
use Rattle.mk_missing.specs.Watching.{IsInput, IsLastWriter, IsDeclared}
use Rattle.mk_missing.specs.Doings.{Contents, contents, left_by, AreSteps, IsAfresh, found_by}
use Rattle.mk_missing.specs.Laws.{IsSettled}

-- a history of n, alone from these contents, that leaves what the store has at the names that are n's own by this reading
abbrev IsAlone : Jobs → ℕ → (Name → Type 0) → Contents → List HistoryLine → Store → Type 0
IsAlone jobs n Mine start es store = AreSteps jobs n start es × ((x : Name) → Mine x → bytes_of (store x) ≡ left_by start es x)

-- an input of n, or a name that it writes last
abbrev IsMine : Jobs → ℕ → Name → Type 0
IsMine jobs n x = IsInput jobs n x ⊎ IsLastWriter jobs n x

touches_mine : (jobs : Jobs) (n : ℕ) (x : Name) → IsMine jobs n x → may_touch jobs n x ≡ true
touches_mine jobs n x (inl input) = or_left _ _ input.reads
touches_mine jobs n x (inr last) = or_right _ _ last.writes

-- what n may not write is in the end as at the start of its history
pub input_stays : (jobs : Jobs) (n : ℕ) (start : Contents) (es : List HistoryLine) (x : Name) → AreSteps jobs n start es → may_write jobs n x ≡ false → left_by start es x ≡ start x
input_stays jobs n start [] x steps foreign = refl
input_stays jobs n start (Looked path seen ∷ es) x steps foreign = input_stays jobs n start es x steps.0 foreign
input_stays jobs n start (Wrote path left ∷ es) x steps foreign = split (same_name path x)
    (λ same. absurd (false≢true (sym foreign ∙ subst (λ y. may_write jobs n y ≡ true) (same_name-true path x same) steps.1)))
    (λ other. rw other (input_stays jobs n start es x steps.0 foreign))

module _ (jobs : Jobs) (tie : Bool) (limit : ℕ) (opening : Store) (free : IsRaceFree jobs) where
  -- an event of another node keeps x, unless that node may write it
  keeps_unless : (e : Event) (past : List Event) (n : ℕ) (x : Name) → IsRun jobs tie limit opening (e ∷ past) → (e.node == n) ≡ false → ((e.node ≡ n → ⊥) → phase past e.node ≡ Running → may_write jobs e.node x ≡ true → ⊥)
      → store_after opening (e ∷ past) x ≡ store_after opening past x
  keeps_unless e past n x run other refute = split_option (touch x e.act)
      (λ none. written-untouched x e.act (store_after opening past x) none)
      (λ c some.
      let writer = toucher jobs tie limit opening past e.node e.act x c run.1 some in
      absurd (refute (λ is. false≢true (sym other ∙ eq-eqb _ _ is)) writer.0 writer.1))

  -- who acts comes before nobody that waits no more
  acts_before : (m : ℕ) (past : List Event) (n : ℕ) → IsRun jobs tie limit opening past → phase past m ≡ Running → is_begun (phase past n) ≡ true → Before jobs m n → ⊥
  acts_before m past n run acts begun before = false≢true (sym (ap is_passed acts) ∙ chain_passed jobs tie limit opening past m n run before begun)

  -- while n runs nobody else writes what it may touch
  others_keep : (e : Event) (past : List Event) (n : ℕ) (x : Name) → IsRun jobs tie limit opening (e ∷ past) → phase past n ≡ Running → (e.node == n) ≡ false → may_touch jobs n x ≡ true
      → store_after opening (e ∷ past) x ≡ store_after opening past x
  others_keep e past n x run runs other touches = keeps_unless e past n x run other (λ different acts writes.
      elim (free e.node n (x, record { different = different; first = or_right _ _ writes; second = touches; written = or_left _ _ writes })) [
        | inl before ↦ acts_before e.node past n run.0 acts (ap is_begun runs) before
        | inr after ↦ acts_before n past e.node run.0 runs (ap is_begun acts) after
      ])

  abbrev IsAloneNow : List Event → ℕ → Type 0
  IsAloneNow past n = IsAlone jobs n (λ x. may_touch jobs n x ≡ true) (found_by opening past n) (history past n) (store_after opening past)

  -- what n found stays, once it has started
  pub found_on : (e : Event) (past : List Event) (n : ℕ) → is_started (phase past n) ≡ true → found_by opening (e ∷ past) n ≡ found_by opening past n
  found_on e past n started = ap (λ (b : Bool). if b then found_by opening past n else contents (store_after opening past)) started

  found_first : (e : Event) (past : List Event) (n : ℕ) → is_started (phase past n) ≡ false → found_by opening (e ∷ past) n ≡ contents (store_after opening past)
  found_first e past n idle = ap (λ (b : Bool). if b then found_by opening past n else contents (store_after opening past)) idle

  -- one more act of n
  own_act : (past : List Event) (n : ℕ) (a : Act) (start : Contents) → IsRun jobs tie limit opening past → May jobs tie limit opening past n a
      → (phase past n ≡ Running → IsAlone jobs n (λ x. may_touch jobs n x ≡ true) start (history past n) (store_after opening past)) → (is_started (phase past n) ≡ false → start ≡ contents (store_after opening past))
      → phase_after (a ∷ acts_of n past) ≡ Running → IsAlone jobs n (λ x. may_touch jobs n x ≡ true) start (entries (a ∷ acts_of n past)) (λ x. written a x (store_after opening past x))
  own_act past n Skip start run may earlier first runs = absurd (false≢true (ap is_started runs))
  own_act past n Start start run may earlier first runs =
      let none : history past n ≡ [] = unstarted_empty jobs tie limit opening past n run (ap is_started may.ready.waits) in
      rw none (tt, λ x touches. ap (λ (found : Contents). found x) (sym (first (ap is_started may.ready.waits))))
  own_act past n (Look path seen) start run may earlier first runs =
      let old = earlier may.runs in
      ((old.0, (may.reads, may.reports ∙ old.1 path (or_left _ _ may.reads))), old.1)
  own_act past n (Put path bytes time) start run may earlier first runs =
      let old = earlier may.runs in
      ((old.0, may.writes), λ x touches. split (same_name path x) (λ same. rw same refl) (λ other. rw other (old.1 x touches)))
  own_act past n (Erase path) start run may earlier first runs =
      let old = earlier may.runs in
      ((old.0, may.writes), λ x touches. split (same_name path x) (λ same. rw same refl) (λ other. rw other (old.1 x touches)))
  own_act past n Finish start run may earlier first runs = absurd (false≢true (sym (ap is_passed runs)))

  -- a running node did alone what it did so far
  pub alone : (past : List Event) (n : ℕ) → IsRun jobs tie limit opening past → phase past n ≡ Running → IsAloneNow past n
  alone [] n run runs = absurd (false≢true (ap is_started runs))
  alone (e ∷ past) n run runs = split (e.node == n)
      (λ own.
      let earlier = λ (before : phase past n ≡ Running). subst (λ start. IsAlone jobs n (λ x. may_touch jobs n x ≡ true) start (history past n) (store_after opening past)) (sym (found_on e past n (ap is_started before))) (alone past n run.0 before) in
      rw own (own_act past n e.act (found_by opening (e ∷ past) n) run.0 (may_own jobs tie limit opening e past n run own) earlier (found_first e past n) (rw own at runs)))
      (λ other.
      let before : phase past n ≡ Running = rw other at runs in
      let old = alone past n run.0 before in
      subst (λ start. IsAlone jobs n (λ x. may_touch jobs n x ≡ true) start (history (e ∷ past) n) (store_after opening (e ∷ past))) (sym (found_on e past n (ap is_started before)))
      (rw other (old.0, λ x touches. ap bytes_of (others_keep e past n x run before other touches) ∙ old.1 x touches)))

  module _ (valid : IsValid jobs) (fixed : Name → Bool) (declared : IsDeclared jobs fixed) where
    -- once n waits no more, nobody else writes an input of it or what it writes last
    mine_stays : (e : Event) (past : List Event) (n : ℕ) (x : Name) → IsRun jobs tie limit opening (e ∷ past) → is_begun (phase past n) ≡ true → (e.node == n) ≡ false → IsMine jobs n x
        → store_after opening (e ∷ past) x ≡ store_after opening past x
    mine_stays e past n x run begun other mine = keeps_unless e past n x run other (λ different acts writes.
        elim mine [
          | inl input ↦ acts_before e.node past n run.0 acts begun (declared.earlier n e.node x input writes)
          | inr last ↦ elim (free e.node n (x, record { different = different; first = or_right _ _ writes; second = or_right _ _ last.writes; written = or_left _ _ writes })) [
            | inl before ↦ acts_before e.node past n run.0 acts begun before
            | inr after ↦ (let up = before_less valid after in let down = last.last e.node writes in omega arith)
          ]
        ])

    abbrev IsAloneEver : List Event → ℕ → Type 0
    IsAloneEver past n = IsAlone jobs n (IsMine jobs n) (found_by opening past n) (history past n) (store_after opening past)

    -- an act of who has started leaves it running, or finishes it
    runs_or_ends : (past : List Event) (n : ℕ) (a : Act) → May jobs tie limit opening past n a → is_started (phase_after (a ∷ acts_of n past)) ≡ true
        → (phase_after (a ∷ acts_of n past) ≡ Running) ⊎ ((phase past n ≡ Running) × (a ≡ Finish))
    runs_or_ends past n Skip may started = absurd (false≢true started)
    runs_or_ends past n Start may started = inl refl
    runs_or_ends past n (Look path seen) may started = inl may.runs
    runs_or_ends past n (Put path bytes time) may started = inl may.runs
    runs_or_ends past n (Erase path) may started = inl may.runs
    runs_or_ends past n Finish may started = inr (may, refl)

    -- who has started did alone what it did, and what it read and wrote last is there still
    pub did_alone : (past : List Event) (n : ℕ) → IsRun jobs tie limit opening past → is_started (phase past n) ≡ true → IsAloneEver past n
    did_alone [] n run started = absurd (false≢true started)
    did_alone (e ∷ past) n run started = split (e.node == n)
        (λ own. elim (runs_or_ends past n e.act (may_own jobs tie limit opening e past n run own) (rw own at started)) [
          | inl runs ↦
              let now = alone (e ∷ past) n run (rw own runs) in
              (now.0, λ x mine. now.1 x (touches_mine jobs n x mine))
          | inr was ↦
              let old = alone past n run.0 was.0 in
              let same : history (e ∷ past) n ≡ history past n = rw own (ap (λ a. entries (a ∷ acts_of n past)) was.1) in
              let found = found_on e past n (ap is_started was.0) in
              let ended : (x : Name) → store_after opening (e ∷ past) x ≡ store_after opening past x = λ x. ap (λ a. written a x (store_after opening past x)) was.1 in
              subst₂ (λ start es. IsAlone jobs n (IsMine jobs n) start es (store_after opening (e ∷ past))) (sym found) (sym same)
              (old.0, λ x mine. ap bytes_of (ended x) ∙ old.1 x (touches_mine jobs n x mine))
        ])
        (λ other.
        let before : is_started (phase past n) ≡ true = rw other at started in
        let old = did_alone past n run.0 before in
        subst (λ start. IsAlone jobs n (IsMine jobs n) start (history (e ∷ past) n) (store_after opening (e ∷ past))) (sym (found_on e past n before))
        (rw other (old.0, λ x mine. ap bytes_of (mine_stays e past n x run (started_begun (phase past n) before) other mine) ∙ old.1 x mine)))

    -- so it is settled, if it worked afresh
    pub started_settled : (programs : ℕ → Program) (past : List Event) (n : ℕ) → IsRun jobs tie limit opening past → Follows (programs n) (reverse (history past n)) → IsAfresh jobs n (found_by opening past n) (history past n) → is_started (phase past n) ≡ true
        → IsSettled jobs programs (store_after opening past) n
    started_settled programs past n run follows afresh started =
        let now = did_alone past n run started in
        record {
          start = found_by opening past n;
          history = history past n;
          does = record { follows = follows; steps = now.0 };
          afresh = afresh;
          inputs = λ x input. sym (now.1 x (inl input) ∙ input_stays jobs n (found_by opening past n) (history past n) x now.0 input.foreign);
          stays = λ x last. now.1 x (inr last);
        }
