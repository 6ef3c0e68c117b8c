-- A build of an old tree stays within the footprints, if a build of a clean tree with the same sources did. Before each of its steps its
-- recipe has done, from the same inputs, the beginning of what it did there.
use Rattle.std.proofs.Common.{ℕ, ◌≡◌, ◌==◌, ◌&&◌, not, Bool, true, false, List, [], ◌∷◌, ◌++◌, Some, None, refl, sym, ap, ◌∙◌, subst, subst₂, reverse, eqb-true, eq-eqb, append_assoc, append-nil}
use mathlib.Core.List.{reverse_aux, reverse_aux-eq}
use Rattle.std.proofs.lemmas.Bool.{false≢true, and_parts, false_from_ne_true, or_left}
use Rattle.std.proofs.lemmas.List.{reverse-reverse}
use Rattle.mk_name.specs.Names.{Name}
use Rattle.mk_jobs.specs.Jobs.{Jobs, IsValid, IsRaceFree, node_count, name_of, has_recipe, is_idle, is_live, may_read, may_write}
use Rattle.mk_jobs.proofs.JobsLemmas.{live_node, writer_live}
use Rattle.mk_sched.specs.Stores.{Store, bytes_of}
use Rattle.mk_sched.specs.Events.{Act, Skip, Start, Look, Put, Erase, Finish, Event, HistoryLine, Looked, Wrote, Running, entries, acts_of, history, is_passed, is_started, phase, phase_after, store_after}
use Rattle.mk_sched.specs.Programs.{Program, Follows, FollowsPrograms}
use Rattle.mk_sched.specs.Refusals.{is_within}
use Rattle.mk_sched.specs.Runs.{IsRun, Agree, AlikeSteps}
use Rattle.mk_sched.specs.Schedules.{Can, IsSchedule, TimesRise, stays}
use Rattle.mk_sched.proofs.Basics.{split, split_option, is_begun, passed_begun, started_begun, touch, written-untouched}
use Rattle.mk_sched.proofs.OneRun.{toucher, chain_passed, decided}
use Rattle.mk_sched.proofs.Plainly.{there_never_starts}
use Rattle.mk_sched.proofs.Staying.{open_if_can, run_is_schedule}
use Rattle.mk_missing.specs.Watching.{IsInput, IsDeclared}
use Rattle.mk_missing.specs.Doings.{Contents, AreAfresh, AreSteps, IsAfresh, IsStep, WritesFirst, found_by}
use Rattle.mk_missing.specs.Incremental.{HasSources, IsBuild, IsSeenClean, IsSource, SameSources}
use Rattle.mk_missing.specs.Laws.{AllKnown, AllSettled}
use Rattle.mk_missing.proofs.DoneAlone.{alone, found_on, input_stays}
use Rattle.mk_missing.proofs.Alike.{doings_agree, first_before, step_alike, steps_before}
use Rattle.mk_missing.proofs.Building.{HaveWorked, build_settles, passed_settled}
use Rattle.mk_missing.proofs.Settling.{same_below}

module _ (jobs : Jobs) (tie : Bool) (limit : ℕ) (opening : Store) where
  -- a run leaves sources as they are
  pub source_stays : (past : List Event) (x : Name) → IsSource jobs x → IsRun jobs tie limit opening past → store_after opening past x ≡ opening x
  source_stays [] x source run = refl
  source_stays (e ∷ past) x source run = split_option (touch x e.act)
      (λ none. written-untouched x e.act (store_after opening past x) none ∙ source_stays past x source run.0)
      (λ c some. absurd (false≢true (sym (source e.node) ∙ (toucher jobs tie limit opening past e.node e.act x c run.1 some).1)))

  -- what happened before some events could happen, and so could the first of them
  before_end : (ahead past : List Event) → IsSchedule jobs tie limit opening (reverse_aux ahead past) → IsSchedule jobs tie limit opening past
  before_end [] past whole = whole
  before_end (e ∷ ahead) past whole = (before_end ahead (e ∷ past) whole).0

  can_next : (e : Event) (ahead past : List Event) (n : ℕ) → IsSchedule jobs tie limit opening (reverse_aux ahead (e ∷ past)) → (e.node == n) ≡ true → Can jobs tie limit opening past n e.act
  can_next e ahead past n whole own = subst (λ k. Can jobs tie limit opening past k e.act) (eqb-true e.node n own) (before_end ahead (e ∷ past) whole).1

  -- who has passed acts no more
  passed_next : (e : Event) (ahead past : List Event) (n : ℕ) → IsSchedule jobs tie limit opening (reverse_aux ahead (e ∷ past)) → is_passed (phase past n) ≡ true → acts_of n (e ∷ past) ≡ acts_of n past
  passed_next e ahead past n whole passed = split (e.node == n)
      (λ own. absurd (false≢true (sym (open_if_can jobs tie limit opening past n e.act (can_next e ahead past n whole own)) ∙ passed)))
      (λ other. rw other refl)

  passed_acts : (ahead past : List Event) (n : ℕ) → IsSchedule jobs tie limit opening (reverse_aux ahead past) → is_passed (phase past n) ≡ true → acts_of n (reverse_aux ahead past) ≡ acts_of n past
  passed_acts [] past n whole passed = refl
  passed_acts (e ∷ ahead) past n whole passed =
      let same = passed_next e ahead past n whole passed in
      passed_acts ahead (e ∷ past) n whole (ap (λ acts. is_passed (phase_after acts)) same ∙ passed) ∙ same

  -- who has started has started for good
  started_act : (past : List Event) (n : ℕ) (a : Act) → Can jobs tie limit opening past n a → is_started (phase past n) ≡ true → is_started (phase_after (a ∷ acts_of n past)) ≡ true
  started_act past n Skip can started = absurd (false≢true (sym (ap is_started can.ready.waits) ∙ started))
  started_act past n Start can started = refl
  started_act past n (Look path seen) can started = started
  started_act past n (Put path bytes time) can started = started
  started_act past n (Erase path) can started = started
  started_act past n Finish can started = refl

  started_next : (e : Event) (ahead past : List Event) (n : ℕ) → IsSchedule jobs tie limit opening (reverse_aux ahead (e ∷ past)) → is_started (phase past n) ≡ true → is_started (phase (e ∷ past) n) ≡ true
  started_next e ahead past n whole started = split (e.node == n)
      (λ own. rw own (started_act past n e.act (can_next e ahead past n whole own) started))
      (λ other. rw other started)

  started_on : (ahead past : List Event) (n : ℕ) → IsSchedule jobs tie limit opening (reverse_aux ahead past) → is_started (phase past n) ≡ true → is_started (phase (reverse_aux ahead past) n) ≡ true
  started_on [] past n whole started = started
  started_on (e ∷ ahead) past n whole started = started_on ahead (e ∷ past) n whole (started_next e ahead past n whole started)

  -- and what it found stays
  found_stays : (free : IsRaceFree jobs) (ahead past : List Event) (n : ℕ) → IsSchedule jobs tie limit opening (reverse_aux ahead past) → is_started (phase past n) ≡ true → found_by opening (reverse_aux ahead past) n ≡ found_by opening past n
  found_stays free [] past n whole started = refl
  found_stays free (e ∷ ahead) past n whole started =
      found_stays free ahead (e ∷ past) n whole (started_next e ahead past n whole started) ∙ found_on jobs tie limit opening free e past n started

  -- so who ran to its end before followed its program, and worked afresh
  worked_before : (programs : ℕ → Program) (free : IsRaceFree jobs) (ahead past : List Event) → IsSchedule jobs tie limit opening (reverse_aux ahead past)
      → FollowsPrograms programs (reverse_aux ahead past) → AreAfresh jobs opening (reverse_aux ahead past) → HaveWorked jobs programs opening past
  worked_before programs free ahead past whole follows afresh n ran =
      let same = passed_acts ahead past n whole (ap is_passed ran) in
      let started : is_started (phase past n) ≡ true = ap is_started ran in
      let ends = started_on ahead past n whole started in (
        subst (λ acts. Follows (programs n) (reverse (entries acts))) same (follows n ends),
        subst₂ (IsAfresh jobs n) (found_stays free ahead past n whole started) (ap entries same) (afresh n ends),
      )

-- what a node did before some events begins what it did in all
next_lines : (a : Act) (acts : List Act) → (line : List HistoryLine) × (reverse (entries (a ∷ acts)) ≡ reverse (entries acts) ++ line)
next_lines Skip acts = ([], sym (append-nil (reverse (entries acts))))
next_lines Start acts = ([], sym (append-nil (reverse (entries acts))))
next_lines (Look path seen) acts = (Looked path seen ∷ [], reverse_aux-eq (entries acts) (Looked path seen ∷ []))
next_lines (Put path bytes time) acts = (Wrote path (Some bytes) ∷ [], reverse_aux-eq (entries acts) (Wrote path (Some bytes) ∷ []))
next_lines (Erase path) acts = (Wrote path None ∷ [], reverse_aux-eq (entries acts) (Wrote path None ∷ []))
next_lines Finish acts = ([], sym (append-nil (reverse (entries acts))))

abbrev GoesOn : List HistoryLine → List HistoryLine → Type 0
GoesOn beginning whole = (later : List HistoryLine) × (whole ≡ beginning ++ later)

goes_on : (ahead past : List Event) (n : ℕ) → GoesOn (reverse (history past n)) (reverse (history (reverse_aux ahead past) n))
goes_on [] past n = ([], sym (append-nil (reverse (history past n))))
goes_on (e ∷ ahead) past n =
    let rest = goes_on ahead (e ∷ past) n in
    split (e.node == n)
    (λ own.
    let next = next_lines e.act (acts_of n past) in
    let one : reverse (history (e ∷ past) n) ≡ reverse (history past n) ++ next.0 = rw own next.1 in
    (next.0 ++ rest.0, rest.1 ∙ (ap (λ lines. lines ++ rest.0) one ∙ append_assoc (reverse (history past n)) next.0 rest.0)))
    (λ other.
    let one : reverse (history (e ∷ past) n) ≡ reverse (history past n) = rw other refl in
    (rest.0, rest.1 ∙ ap (λ lines. lines ++ rest.0) one))

-- a line of a history is within the footprint of n
abbrev is_inside : Jobs → ℕ → HistoryLine → Bool
is_inside jobs n (Looked path seen) = may_read jobs n path
is_inside jobs n (Wrote path left) = may_write jobs n path

step_inside : (jobs : Jobs) (n : ℕ) (now : Contents) (e f : HistoryLine) → IsStep jobs n now e → AlikeSteps e f → is_inside jobs n f ≡ true
step_inside jobs n now (Looked x seen) (Looked y found) step alike = ap (may_read jobs n) (sym alike) ∙ step.0
step_inside jobs n now (Wrote x left) (Wrote y kept) step alike = ap (may_write jobs n) (sym alike.0) ∙ step
step_inside jobs n now (Looked x seen) (Wrote y kept) step alike = absurd alike
step_inside jobs n now (Wrote x left) (Looked y found) step alike = absurd alike

module _ (jobs : Jobs) (n : ℕ) (start other : Contents) (inputs : (x : Name) → IsInput jobs n x → start x ≡ other x) where
  -- a doing goes through lines, and another has begun with such as agree: its next line is within the footprint too
  next_inside : (done lines begun : List HistoryLine) (f : HistoryLine) (later : List HistoryLine) → AreSteps jobs n start (reverse_aux lines done) → AreSteps jobs n other (reverse_aux begun done)
      → WritesFirst jobs n (reverse_aux lines done) → Agree lines (begun ++ f ∷ later) → is_inside jobs n f ≡ true
  next_inside done [] [] f later one two first agree = absurd agree
  next_inside done [] (g ∷ begun) f later one two first agree = absurd agree
  next_inside done (e ∷ lines) [] f later one two first agree =
      step_inside jobs n _ e f (steps_before jobs n start other inputs start lines (e ∷ done) one).1 agree.0
  next_inside done (e ∷ lines) (g ∷ begun) f later one two first agree =
      let same = step_alike jobs n start other inputs e g done (steps_before jobs n start other inputs start lines (e ∷ done) one) (steps_before jobs n start other inputs other begun (g ∷ done) two)
      (first_before jobs n start other inputs lines (e ∷ done) first) agree.0 in
      next_inside (e ∷ done) lines begun f later one (subst (λ d. AreSteps jobs n other (reverse_aux begun (d ∷ done))) (sym same) two) first (agree.1 same)

module _ (jobs : Jobs) (programs : ℕ → Program) (fixed : Name → Bool) (opening : Store) (valid : IsValid jobs) (free : IsRaceFree jobs) (declared : IsDeclared jobs fixed)
    (has : HasSources jobs opening) (known : AllKnown jobs programs opening) (settled : Store) (sources : SameSources jobs opening settled) (all : AllSettled jobs programs settled)
    (tie : Bool) (limit : ℕ) where
  -- who starts is live: an idle node's file is a source, and there
  running_live : (past : List Event) (n : ℕ) → IsRun jobs tie limit opening past → phase past n ≡ Running → is_live jobs n ≡ true
  running_live past n run runs =
      let started : is_started (phase past n) ≡ true = ap is_started runs in
      let d = decided jobs tie limit opening past n run (started_begun (phase past n) started) in
      let recipe = (and_parts (has_recipe jobs n) _ (sym d.chosen ∙ started)).0 in
      split (is_idle jobs n)
      (λ idle.
      let not_live : is_live jobs n ≡ false = ap (λ i. has_recipe jobs n && not i) idle ∙ ap (λ r. r && false) recipe in
      let makes_not : may_write jobs n (name_of jobs n) ≡ false = false_from_ne_true _ (λ writes. false≢true (sym not_live ∙ writer_live jobs n (name_of jobs n) writes)) in
      absurd (false≢true (sym (there_never_starts jobs tie limit opening past n valid (has n d.ready.in_jobs makes_not) run d.ready.in_jobs idle) ∙ started)))
      (λ busy. ap (λ i. has_recipe jobs n && not i) busy ∙ ap (λ r. r && true) recipe)

  module _ (past : List Event) (run : IsRun jobs tie limit opening past) (worked : HaveWorked jobs programs opening past) where
    -- an input of a running node is what it is in the settled store: all who may write it have passed
    input_alike : (n : ℕ) (x : Name) → is_begun (phase past n) ≡ true → IsInput jobs n x → bytes_of (store_after opening past x) ≡ bytes_of (settled x)
    input_alike n x begun input =
        same_below jobs programs fixed (store_after opening past) settled valid declared
        (λ y source. ap bytes_of (source_stays jobs tie limit opening past y source run) ∙ sources y source)
        (λ m. (is_begun (phase past m) ≡ true) × (is_passed (phase past m) ≡ true))
        (λ m k before among. let passed = chain_passed jobs tie limit opening past m k run before among.0 in (passed_begun (phase past m) passed, passed))
        (λ m among live. passed_settled jobs programs fixed opening past valid free declared has tie limit run worked known m live among.1) all
        (node_count jobs) x
        (λ m writes.
        let passed = chain_passed jobs tie limit opening past m n run (declared.earlier n m x input writes) begun in
        (live_node jobs m (writer_live jobs m x writes), (passed_begun (phase past m) passed, passed)))

    -- so what it does next is within its footprint
    line_stays : (n : ℕ) (f : HistoryLine) (lines later : List HistoryLine) → phase past n ≡ Running → Follows (programs n) lines → lines ≡ reverse (f ∷ history past n) ++ later → is_inside jobs n f ≡ true
    line_stays n f lines later runs follows is =
        let did = alone jobs tie limit opening free past n run runs in
        let s = all n (running_live past n run runs) in
        let inputs = λ (x : Name) (input : IsInput jobs n x).
        s.inputs x input ∙ (sym (input_alike n x (ap is_begun runs) input) ∙ (did.1 x (or_left _ _ input.reads) ∙ input_stays jobs n (found_by opening past n) (history past n) x did.0 input.foreign)) in
        let all_lines : lines ≡ reverse (history past n) ++ f ∷ later =
        is ∙ (ap (λ xs. xs ++ later) (reverse_aux-eq (history past n) (f ∷ [])) ∙ append_assoc (reverse (history past n)) (f ∷ []) later) in
        let agree = subst (λ h. Agree (reverse s.history) h) (reverse-reverse lines)
        (doings_agree programs n s.history (reverse lines) s.does.follows (subst (Follows (programs n)) (sym (reverse-reverse lines)) follows)) in
        next_inside jobs n s.start (found_by opening past n) inputs [] (reverse s.history) (reverse (history past n)) f later
        (subst (AreSteps jobs n s.start) (sym (reverse-reverse s.history)) s.does.steps) (subst (AreSteps jobs n (found_by opening past n)) (sym (reverse-reverse (history past n))) did.0)
        (subst (WritesFirst jobs n) (sym (reverse-reverse s.history)) s.afresh.first) (subst (Agree (reverse s.history)) all_lines agree)

    act_stays : (n : ℕ) (a : Act) (lines later : List HistoryLine) → Can jobs tie limit opening past n a → (phase past n ≡ Running → Follows (programs n) lines) → lines ≡ reverse (entries (a ∷ acts_of n past)) ++ later
        → is_within jobs n a ≡ true
    act_stays n Skip lines later can follows is = refl
    act_stays n Start lines later can follows is = refl
    act_stays n (Look path seen) lines later can follows is = line_stays n (Looked path seen) lines later can.0 (follows can.0) is
    act_stays n (Put path bytes time) lines later can follows is = line_stays n (Wrote path (Some bytes)) lines later can.0 (follows can.0) is
    act_stays n (Erase path) lines later can follows is = line_stays n (Wrote path None) lines later can (follows can) is
    act_stays n Finish lines later can follows is = refl

  -- event by event
  stays_so_far : (ahead past : List Event) → IsSchedule jobs tie limit opening (reverse_aux ahead past) → FollowsPrograms programs (reverse_aux ahead past) → AreAfresh jobs opening (reverse_aux ahead past)
      → TimesRise opening past → stays jobs past ≡ true
  stays_so_far ahead [] whole follows afresh rise = refl
  stays_so_far ahead (e ∷ past) whole follows afresh rise =
      let now = before_end jobs tie limit opening ahead (e ∷ past) whole in
      let earlier = stays_so_far (e ∷ ahead) past whole follows afresh rise.0 in
      let run = (run_is_schedule jobs tie limit opening past).1 (now.0, earlier, rise.0) in
      let rest = goes_on ahead (e ∷ past) e.node in
      let lines : reverse (history (reverse_aux ahead (e ∷ past)) e.node) ≡ reverse (entries (e.act ∷ acts_of e.node past)) ++ rest.0 = rw (eq-eqb e.node e.node refl) at rest.1 in
      rw (act_stays past run (worked_before jobs tie limit opening programs free (e ∷ ahead) past whole follows afresh) e.node e.act (reverse (history (reverse_aux ahead (e ∷ past)) e.node)) rest.0 now.1
      (λ runs. follows e.node (started_on jobs tie limit opening (e ∷ ahead) past e.node whole (ap is_started runs))) lines) earlier

-- a build of a clean store with these sources, which stayed, settles what the other one is held against
pub known_stays : (jobs : Jobs) (programs : ℕ → Program) (fixed : Name → Bool) (opening : Store) (past : List Event) → IsValid jobs → IsRaceFree jobs → IsDeclared jobs fixed
    → HasSources jobs opening → AllKnown jobs programs opening → (seen : IsSeenClean jobs programs opening) → AllKnown jobs programs seen.clean → IsBuild jobs programs opening past → stays jobs past ≡ true
known_stays jobs programs fixed opening past valid free declared has known seen clean_known build =
    let b = seen.build in
    let run = (run_is_schedule jobs b.tie b.limit seen.clean seen.past).1 (b.schedule, seen.stayed, b.rise) in
    stays_so_far jobs programs fixed opening valid free declared has known (store_after seen.clean seen.past)
    (λ x source. seen.sources x source ∙ sym (ap bytes_of (source_stays jobs b.tie b.limit seen.clean seen.past x source run)))
    (build_settles jobs programs fixed seen.clean seen.past valid free declared seen.is_clean.sources clean_known b seen.stayed)
    build.tie build.limit [] past build.schedule build.follows build.afresh build.rise
