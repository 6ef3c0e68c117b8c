-- The headline: race-free jobs are determinate. By the numbers of the nodes, and for each node along its two histories.
use Rattle.std.proofs.Common.{ℕ, zero, suc, ◌≡◌, ◌<◌, ◌&&◌, Bool, true, List, [], ◌∷◌, ◌++◌, Option, refl, sym, ap, ◌∙◌, reverse, arith}
use mathlib.Core.List.{reverse_aux, reverse_aux-eq}
use Rattle.std.proofs.lemmas.List.{reverse-reverse}
use Rattle.mk_name.specs.Names.{Name}
use Rattle.mk_jobs.specs.Jobs.{Jobs, IsValid, IsRaceFree, Before, has_recipe}
use Rattle.mk_jobs.proofs.JobsLemmas.{before_less}
use Rattle.mk_sched.specs.Stores.{Bytes, Store}
use Rattle.mk_sched.specs.Events.{Act, Skip, Start, Look, Put, Erase, Finish, Event, HistoryLine, Looked, Wrote, Ran, entries, is_passed, is_started, phase, acts_of, history}
use Rattle.mk_sched.specs.Runs.{AlikeSteps, Agree, IsRun, IsComplete}
use Rattle.mk_sched.specs.Laws.{SameOutcome, Headline}
use Rattle.mk_sched.proofs.Basics.{split, is_begun, passed_begun, ran_if}
use Rattle.mk_sched.proofs.OneRun.{chain_passed, decided, moment, ready, unstarted_empty}
use Rattle.mk_sched.proofs.Moving.{in_jobs}
use Rattle.mk_sched.proofs.TwoRuns.{same_files, look_alike, stale_alike}

-- a look in a history is an act
abbrev IsLookAmong : List Act → Name → Option Bytes → List HistoryLine → Type 0
IsLookAmong acts x seen older = (newer : List Act) × (rest : List Act) × (acts ≡ newer ++ Look x seen ∷ rest) × (entries rest ≡ older)

look_later : (a : Act) (acts : List Act) (x : Name) (seen : Option Bytes) (older : List HistoryLine) → IsLookAmong acts x seen older → IsLookAmong (a ∷ acts) x seen older
look_later a acts x seen older found = (a ∷ found.0, found.1, ap (λ rest. a ∷ rest) found.2, found.3)

look_among : (acts : List Act) (newer : List HistoryLine) (x : Name) (seen : Option Bytes) (older : List HistoryLine) → entries acts ≡ newer ++ Looked x seen ∷ older → IsLookAmong acts x seen older
look_among [] [] x seen older is = cc
look_among [] (b ∷ newer) x seen older is = cc
look_among (Skip ∷ acts) newer x seen older is = look_later Skip acts x seen older (look_among acts newer x seen older is)
look_among (Start ∷ acts) newer x seen older is = look_later Start acts x seen older (look_among acts newer x seen older is)
look_among (Look path reported ∷ acts) [] x seen older is = ([], acts, cc, cc)
look_among (Look path reported ∷ acts) (b ∷ newer) x seen older is = look_later (Look path reported) acts x seen older (look_among acts newer x seen older (cc))
look_among (Put path bytes time ∷ acts) [] x seen older is = cc
look_among (Put path bytes time ∷ acts) (b ∷ newer) x seen older is = look_later (Put path bytes time) acts x seen older (look_among acts newer x seen older (cc))
look_among (Erase path ∷ acts) [] x seen older is = cc
look_among (Erase path ∷ acts) (b ∷ newer) x seen older is = look_later (Erase path) acts x seen older (look_among acts newer x seen older (cc))
look_among (Finish ∷ acts) newer x seen older is = look_later Finish acts x seen older (look_among acts newer x seen older is)

module _ (jobs : Jobs) (opening : Store) (tie : Bool) (limit other : ℕ) (valid : IsValid jobs) (free : IsRaceFree jobs)
    (a b : List Event) (run_a : IsRun jobs tie limit opening a) (run_b : IsRun jobs tie other opening b) where
  -- two looks of n at one name after equal histories find the same, if the nodes before n did the same in both runs
  seen_alike : (n : ℕ) (x : Name) (s t : Option Bytes) (newer later older : List HistoryLine) → ((m : ℕ) → Before jobs m n → history a m ≡ history b m)
      → history a n ≡ newer ++ Looked x s ∷ older → history b n ≡ later ++ Looked x t ∷ older → s ≡ t
  seen_alike n x s t newer later older known is_a is_b =
      let la = look_among (acts_of n a) newer x s older is_a in
      let lb = look_among (acts_of n b) later x t older is_b in
      let ma = moment jobs tie limit opening a n la.0 (Look x s) la.1 run_a la.2 in
      let mb = moment jobs tie other opening b n lb.0 (Look x t) lb.1 run_b lb.2 in
      let earlier = λ (m : ℕ) (before : Before jobs m n).
      let in_a = ap entries (ma.final m (chain_passed jobs tie limit opening ma.earlier m n ma.run before (ap is_begun ma.may.runs))) in
      let in_b = ap entries (mb.final m (chain_passed jobs tie other opening mb.earlier m n mb.run before (ap is_begun mb.may.runs))) in
      sym in_a ∙ (known m before ∙ in_b) in
      ma.may.reports
      ∙ (look_alike jobs opening tie tie limit other ma.earlier mb.earlier n x valid free ma.run mb.run ma.may.runs mb.may.runs
      ((ap entries ma.acts ∙ la.3) ∙ sym (ap entries mb.acts ∙ lb.3)) earlier ma.may.reads
      ∙ sym mb.may.reports)

  -- the next steps after equal histories are equal, if they are alike
  pub step_alike : (n : ℕ) (e f : HistoryLine) (older xs ys : List HistoryLine) → ((m : ℕ) → Before jobs m n → history a m ≡ history b m)
      → history a n ≡ reverse_aux xs (e ∷ older) → history b n ≡ reverse_aux ys (f ∷ older) → AlikeSteps e f → e ≡ f
  step_alike n (Looked x s) (Looked y t) older xs ys known is_a is_b alike =
      let there = is_b ∙ ap (λ z. reverse_aux ys (Looked z t ∷ older)) (sym alike) in
      let same = seen_alike n x s t (reverse xs) (reverse ys) older known (is_a ∙ reverse_aux-eq xs _) (there ∙ reverse_aux-eq ys _) in
      cc
  step_alike n (Wrote x left) (Wrote y kept) older xs ys known is_a is_b alike = cc
  step_alike n (Looked x s) (Wrote y kept) older xs ys known is_a is_b alike = absurd alike
  step_alike n (Wrote x left) (Looked y t) older xs ys known is_a is_b alike = absurd alike

  -- what two histories go on with is equal, if it agrees
  go_on : (n : ℕ) (older xs ys : List HistoryLine) → ((m : ℕ) → Before jobs m n → history a m ≡ history b m)
      → history a n ≡ reverse_aux xs older → history b n ≡ reverse_aux ys older → Agree xs ys → xs ≡ ys
  go_on n older [] [] known is_a is_b agree = refl
  go_on n older (e ∷ xs) (f ∷ ys) known is_a is_b agree =
      let same = step_alike n e f older xs ys known is_a is_b agree.0 in
      let rest = go_on n (e ∷ older) xs ys known is_a (is_b ∙ ap (λ d. reverse_aux ys (d ∷ older)) (sym same)) (agree.1 same) in
      cc
  go_on n older [] (f ∷ ys) known is_a is_b agree = absurd agree
  go_on n older (e ∷ xs) [] known is_a is_b agree = absurd agree

  history_alike : (n : ℕ) → ((m : ℕ) → Before jobs m n → history a m ≡ history b m) → Agree (reverse (history a n)) (reverse (history b n)) → history a n ≡ history b n
  history_alike n known agree =
      let same = go_on n [] (reverse (history a n)) (reverse (history b n)) known (sym (reverse-reverse (history a n))) (sym (reverse-reverse (history b n))) agree in
      sym (reverse-reverse (history a n)) ∙ (ap reverse same ∙ reverse-reverse (history b n))

  module _ (complete_a : IsComplete jobs a) (agree : (n : ℕ) → is_started (phase a n) ≡ true → phase b n ≡ Ran → Agree (reverse (history a n)) (reverse (history b n))) where
    -- who waits no more in b starts in both runs or in neither, if the smaller nodes that have passed in b did the same
    start_alike : (n : ℕ) → is_begun (phase b n) ≡ true → ((m : ℕ) → m < n → is_passed (phase b m) ≡ true → history a m ≡ history b m) → is_started (phase a n) ≡ is_started (phase b n)
    start_alike n begun known =
        let inside = in_jobs jobs tie other opening b n run_b begun in
        let da = decided jobs tie limit opening a n run_a (passed_begun (phase a n) (complete_a n inside)) in
        let db = decided jobs tie other opening b n run_b begun in
        da.chosen
        ∙ (ap (λ stale. has_recipe jobs n && stale)
        (stale_alike jobs opening tie limit other da.earlier db.earlier n valid da.run db.run inside (ap is_started da.ready.waits) (ap is_started db.ready.waits)
        (λ p step. sym (ap entries (da.final p (da.ready.prerequisites p step)))
        ∙ (known p (valid.smaller n p step) (ready jobs tie other opening b n p run_b step begun) ∙ ap entries (db.final p (db.ready.prerequisites p step)))))
        ∙ sym db.chosen)

    -- who has passed in b did the same in both runs, if the smaller nodes did
    alike_next : (n : ℕ) → is_passed (phase b n) ≡ true → ((m : ℕ) → m < n → is_passed (phase b m) ≡ true → history a m ≡ history b m) → history a n ≡ history b n
    alike_next n passed known =
        let begun = passed_begun (phase b n) passed in
        let start = start_alike n begun known in
        split (is_started (phase a n))
        (λ started. history_alike n
        (λ m before. known m (before_less valid before) (chain_passed jobs tie other opening b m n run_b before begun))
        (agree n started (ran_if (phase b n) (sym start ∙ started) passed)))
        (λ idle. unstarted_empty jobs tie limit opening a n run_a idle ∙ sym (unstarted_empty jobs tie other opening b n run_b (sym start ∙ idle)))

    all_below : (bound n : ℕ) → n < bound → is_passed (phase b n) ≡ true → history a n ≡ history b n
    all_below zero n below passed = absurd (omega arith)
    all_below (suc bound) n below passed = alike_next n passed (λ m smaller. all_below bound m (omega arith))

    pub passed_alike : (n : ℕ) → is_passed (phase b n) ≡ true → history a n ≡ history b n
    passed_alike n passed = all_below (suc n) n (omega arith) passed

    pub starts_alike : (n : ℕ) → is_begun (phase b n) ≡ true → is_started (phase a n) ≡ is_started (phase b n)
    starts_alike n begun = start_alike n begun (λ m smaller. passed_alike m)

    pub same_outcome : IsComplete jobs b → SameOutcome jobs opening a b
    same_outcome complete_b = record {
      starts = λ n inside. starts_alike n (passed_begun (phase b n) (complete_b n inside));
      histories = λ n inside. passed_alike n (complete_b n inside);
      files = λ x. same_files jobs opening tie tie limit other a b x valid free run_a run_b (λ n inside. passed_alike n (complete_b n inside));
    }

pub headline : Headline
headline jobs valid free opening tie limit other a b agrees run_a run_b complete_a complete_b agree =
    same_outcome jobs opening tie limit other valid free a b run_a run_b complete_a (λ n started ran. agree n started (ap is_started ran)) complete_b
