-- One run is enough: a schedule whose recipes agree with those of a complete run stays within the footprints, too.
use Rattle.std.proofs.Common.{ℕ, ◌≡◌, ◌==◌, Bool, true, false, List, [], ◌∷◌, ◌++◌, refl, sym, ap, ◌∙◌, subst, reverse, subst₂, eq-eqb, eqb-true, Some, None}
use Rattle.std.specs.List.{list_all}
use mathlib.Core.List.{reverse_aux, reverse_aux-eq}
use Rattle.std.proofs.lemmas.Bool.{false≢true, and_parts}
use Rattle.std.proofs.lemmas.List.{reverse-reverse}
use Rattle.mk_jobs.specs.Jobs.{Jobs, IsValid, IsRaceFree, Before, may_read, may_write}
use Rattle.mk_sched.specs.Stores.{Store, AgreesWith}
use Rattle.mk_sched.specs.Events.{Act, Skip, Start, Look, Put, Erase, Finish, Event, HistoryLine, Looked, Wrote, Running, Ran, entries, is_passed, is_started, phase, phase_after, acts_of, history, store_after}
use Rattle.mk_sched.specs.Runs.{May, IsRun, IsComplete, AlikeSteps, Agree, RecipesAgree}
use Rattle.mk_sched.specs.Refusals.{IsNewPut, is_within}
use Rattle.mk_sched.specs.Schedules.{Can, IsSchedule, stays, TimesRise, RunIsSchedule, AgreeSoFar, RecipesAgreeSoFar, OthersStay, DeterminateFromOneRun}
use Rattle.mk_sched.specs.Laws.{SameOutcome}
use Rattle.mk_sched.specs.Serialising.{retimed}
use Rattle.mk_sched.proofs.Basics.{split, is_begun}
use Rattle.mk_sched.proofs.OneRun.{may_own, chain_passed}
use Rattle.mk_sched.proofs.Retiming.{all_times, Retimed, in_rising_time}
use Rattle.mk_sched.proofs.Determinate.{step_alike, passed_alike, starts_alike, headline}

module _ (jobs : Jobs) (tie : Bool) (limit : ℕ) (opening : Store) where
  -- what may happen can happen, stays, and has a new time; and the other way round
  can_if_may : (past : List Event) (n : ℕ) (a : Act) → May jobs tie limit opening past n a
      → Can jobs tie limit opening past n a × (is_within jobs n a ≡ true) × IsNewPut (store_after opening past) a
  can_if_may past n Skip may = (may, refl, tt)
  can_if_may past n Start may = (may, refl, tt)
  can_if_may past n (Look path seen) may = ((may.runs, may.reports), may.reads, tt)
  can_if_may past n (Put path bytes time) may = ((may.runs, λ x file opens is. may.newer x file is), may.writes, may.newer)
  can_if_may past n (Erase path) may = (may.runs, may.writes, tt)
  can_if_may past n Finish may = (may, refl, tt)

  may_if_can : (past : List Event) (n : ℕ) (a : Act) → Can jobs tie limit opening past n a → is_within jobs n a ≡ true → IsNewPut (store_after opening past) a
      → May jobs tie limit opening past n a
  may_if_can past n Skip can within new = can
  may_if_can past n Start can within new = can
  may_if_can past n (Look path seen) can within new = record { runs = can.0; reads = within; reports = can.1 }
  may_if_can past n (Put path bytes time) can within new = record { runs = can.0; writes = within; newer = new }
  may_if_can past n (Erase path) can within new = record { runs = can; writes = within }
  may_if_can past n Finish can within new = can

  split_run : (past : List Event) → IsRun jobs tie limit opening past → IsSchedule jobs tie limit opening past × (stays jobs past ≡ true) × TimesRise opening past
  split_run [] run = (tt, refl, tt)
  split_run (e ∷ past) run =
      let earlier = split_run past run.0 in
      let now = can_if_may past e.node e.act run.1 in
      ((earlier.0, now.0), rw (now.1) earlier.1, (earlier.2, now.2))

  join_run : (past : List Event) → IsSchedule jobs tie limit opening past → stays jobs past ≡ true → TimesRise opening past → IsRun jobs tie limit opening past
  join_run [] schedule within rise = tt
  join_run (e ∷ past) schedule within rise =
      let both = and_parts (is_within jobs e.node e.act) (stays jobs past) within in
      (join_run past schedule.0 both.1 rise.0, may_if_can past e.node e.act schedule.1 both.0 rise.1)

  -- who can act has not passed
  pub open_if_can : (past : List Event) (n : ℕ) (a : Act) → Can jobs tie limit opening past n a → is_passed (phase past n) ≡ false
  open_if_can past n Skip can = ap is_passed can.ready.waits
  open_if_can past n Start can = ap is_passed can.ready.waits
  open_if_can past n (Look path seen) can = ap is_passed can.0
  open_if_can past n (Put path bytes time) can = ap is_passed can.0
  open_if_can past n (Erase path) can = ap is_passed can
  open_if_can past n Finish can = ap is_passed can

pub run_is_schedule : RunIsSchedule
run_is_schedule jobs tie limit opening past = (split_run jobs tie limit opening past, λ parts. join_run jobs tie limit opening past parts.0 parts.1 parts.2)

-- whole histories that agree do so as far as they go, and beginnings of what agrees agree
agree_so_far : (es fs : List HistoryLine) → Agree es fs → AgreeSoFar es fs
agree_so_far [] [] agree = tt
agree_so_far (e ∷ es) (f ∷ fs) agree = (agree.0, λ same. agree_so_far es fs (agree.1 same))
agree_so_far [] (f ∷ fs) agree = absurd agree
agree_so_far (e ∷ es) [] agree = absurd agree

pub agree_all_so_far : (seen past : List Event) → RecipesAgree seen past → RecipesAgreeSoFar seen past
agree_all_so_far seen past agree = record {
  finished = λ n starts ran. agree n starts (ap is_started ran);
  running = λ n starts runs. agree_so_far _ _ (agree n starts (ap is_started runs));
}

shorter : (es fs more : List HistoryLine) → AgreeSoFar es (fs ++ more) → AgreeSoFar es fs
shorter [] [] more agree = tt
shorter (e ∷ es) [] more agree = tt
shorter (e ∷ es) (f ∷ fs) more agree = (agree.0, λ same. shorter es fs more (agree.1 same))
shorter [] (f ∷ fs) more agree = absurd agree

without_newest : (es : List HistoryLine) (f : HistoryLine) (older : List HistoryLine) → AgreeSoFar es (reverse (f ∷ older)) → AgreeSoFar es (reverse older)
without_newest es f older agree = shorter es (reverse older) (f ∷ []) (subst (AgreeSoFar es) (reverse_aux-eq older (f ∷ [])) agree)

-- a line of a history is within the footprint of n
abbrev is_inside : Jobs → ℕ → HistoryLine → Bool
is_inside jobs n (Looked path seen) = may_read jobs n path
is_inside jobs n (Wrote path left) = may_write jobs n path

alike_inside : (jobs : Jobs) (n : ℕ) (e f : HistoryLine) → AlikeSteps e f → is_inside jobs n e ≡ is_inside jobs n f
alike_inside jobs n (Looked x seen) (Looked y found) alike = ap (may_read jobs n) alike
alike_inside jobs n (Wrote x left) (Wrote y kept) alike = ap (may_write jobs n) alike.0
alike_inside jobs n (Looked x seen) (Wrote y kept) alike = absurd alike
alike_inside jobs n (Wrote x left) (Looked y found) alike = absurd alike

all_older : (test : HistoryLine → Bool) (newer older : List HistoryLine) → list_all test (reverse_aux newer older) ≡ true → list_all test older ≡ true
all_older test [] older all = all
all_older test (e ∷ newer) older all = (and_parts (test e) (list_all test older) (all_older test newer (e ∷ older) all)).1

module _ (jobs : Jobs) (tie : Bool) (limit : ℕ) (opening : Store) where
  inside_act : (past : List Event) (n : ℕ) (a : Act) → May jobs tie limit opening past n a → list_all (is_inside jobs n) (history past n) ≡ true → list_all (is_inside jobs n) (entries (a ∷ acts_of n past)) ≡ true
  inside_act past n Skip may all = all
  inside_act past n Start may all = all
  inside_act past n (Look path seen) may all = rw (may.reads) all
  inside_act past n (Put path bytes time) may all = rw (may.writes) all
  inside_act past n (Erase path) may all = rw (may.writes) all
  inside_act past n Finish may all = all

  history_inside : (past : List Event) (n : ℕ) → IsRun jobs tie limit opening past → list_all (is_inside jobs n) (history past n) ≡ true
  history_inside [] n run = refl
  history_inside (e ∷ past) n run = split (e.node == n)
      (λ own. rw own (inside_act past n e.act (may_own jobs tie limit opening e past n run own) (history_inside past n run.0)))
      (λ other. rw other (history_inside past n run.0))

module _ (jobs : Jobs) (opening : Store) (tie : Bool) (limit other : ℕ) (valid : IsValid jobs) (free : IsRaceFree jobs)
    (seen : List Event) (run_seen : IsRun jobs tie limit opening seen) (complete : IsComplete jobs seen) where
  module _ (past : List Event) (run : IsRun jobs tie other opening past) (agree : RecipesAgreeSoFar seen past) where
    -- the next line of a history, after lines that agree, is within the footprint, since a line like it was seen
    next_inside : (n : ℕ) (older es fs : List HistoryLine) (f : HistoryLine) → ((m : ℕ) → Before jobs m n → history seen m ≡ history past m)
        → history seen n ≡ reverse_aux es older → history past n ≡ reverse_aux fs older → AgreeSoFar es (fs ++ f ∷ []) → is_inside jobs n f ≡ true
    next_inside n older [] [] f known in_seen in_past on = absurd on
    next_inside n older [] (g ∷ fs) f known in_seen in_past on = absurd on
    next_inside n older (e ∷ es) [] f known in_seen in_past on =
        let all = subst (λ h. list_all (is_inside jobs n) h ≡ true) in_seen (history_inside jobs tie limit opening seen n run_seen) in
        sym (alike_inside jobs n e f on.0) ∙ (and_parts (is_inside jobs n e) (list_all (is_inside jobs n) older) (all_older (is_inside jobs n) es (e ∷ older) all)).0
    next_inside n older (e ∷ es) (g ∷ fs) f known in_seen in_past on =
        let same = step_alike jobs opening tie limit other valid free seen past run_seen run n e g older es fs known in_seen in_past on.0 in
        next_inside n (e ∷ older) es fs f known in_seen (in_past ∙ ap (λ d. reverse_aux fs (d ∷ older)) (sym same)) (on.1 same)

    -- so what a running node does next is within its footprint, if the recipes still agree then
    entry_stays : (n : ℕ) (f : HistoryLine) → phase past n ≡ Running
        → (is_started (phase seen n) ≡ true → AgreeSoFar (reverse (history seen n)) (reverse (f ∷ history past n))) → is_inside jobs n f ≡ true
    entry_stays n f runs on =
        let starts = starts_alike jobs opening tie limit other valid free seen past run_seen run complete agree.finished n (ap is_begun runs) ∙ ap is_started runs in
        let known = λ (m : ℕ) (before : Before jobs m n).
        passed_alike jobs opening tie limit other valid free seen past run_seen run complete agree.finished m (chain_passed jobs tie other opening past m n run before (ap is_begun runs)) in
        next_inside n [] (reverse (history seen n)) (reverse (history past n)) f known
        (sym (reverse-reverse (history seen n))) (sym (reverse-reverse (history past n)))
        (subst (AgreeSoFar (reverse (history seen n))) (reverse_aux-eq (history past n) (f ∷ [])) (on starts))

module _ (jobs : Jobs) (opening : Store) (tie : Bool) (limit other : ℕ) (valid : IsValid jobs) (free : IsRaceFree jobs)
    (seen : List Event) (schedule_seen : IsSchedule jobs tie limit opening seen) (seen_stays : stays jobs seen ≡ true) (complete : IsComplete jobs seen) where
  -- the complete schedule with rising times, a complete run
  seen_again : Retimed jobs tie limit opening (all_times seen) valid seen
  seen_again = in_rising_time jobs tie limit opening seen valid schedule_seen seen_stays

  complete_again : IsComplete jobs (retimed (all_times seen) seen)
  complete_again n inside = ap is_passed (seen_again.acts n).phases ∙ complete n inside

  module _ (past : List Event) (again : Retimed jobs tie other opening (all_times past) valid past) where
    agree_again : RecipesAgreeSoFar seen past → RecipesAgreeSoFar (retimed (all_times seen) seen) (retimed (all_times past) past)
    agree_again agree = record {
      finished = λ n starts ran.
          subst₂ (λ hs fs. Agree (reverse hs) (reverse fs)) (sym (seen_again.acts n).histories) (sym (again.acts n).histories)
          (agree.finished n (sym (ap is_started (seen_again.acts n).phases) ∙ starts) (sym (again.acts n).phases ∙ ran));
      running = λ n starts runs.
          subst₂ (λ hs fs. AgreeSoFar (reverse hs) (reverse fs)) (sym (seen_again.acts n).histories) (sym (again.acts n).histories)
          (agree.running n (sym (ap is_started (seen_again.acts n).phases) ∙ starts) (sym (again.acts n).phases ∙ runs));
    }

    line_stays : (n : ℕ) (f : HistoryLine) → RecipesAgreeSoFar seen past → phase past n ≡ Running
        → (is_started (phase seen n) ≡ true → AgreeSoFar (reverse (history seen n)) (reverse (f ∷ history past n))) → is_inside jobs n f ≡ true
    line_stays n f agree runs on =
        entry_stays jobs opening tie limit other valid free (retimed (all_times seen) seen) seen_again.run complete_again (retimed (all_times past) past) again.run (agree_again agree)
        n f ((again.acts n).phases ∙ runs)
        (λ starts. subst₂ (λ hs fs. AgreeSoFar (reverse hs) (reverse (f ∷ fs))) (sym (seen_again.acts n).histories) (sym (again.acts n).histories)
        (on (sym (ap is_started (seen_again.acts n).phases) ∙ starts)))

    act_stays : (n : ℕ) (a : Act) → RecipesAgreeSoFar seen past → Can jobs tie other opening past n a
        → (is_started (phase seen n) ≡ true → phase_after (a ∷ acts_of n past) ≡ Running → AgreeSoFar (reverse (history seen n)) (reverse (entries (a ∷ acts_of n past)))) → is_within jobs n a ≡ true
    act_stays n Skip agree can on = refl
    act_stays n Start agree can on = refl
    act_stays n (Look path found) agree can on = line_stays n (Looked path found) agree can.0 (λ starts. on starts can.0)
    act_stays n (Put path bytes time) agree can on = line_stays n (Wrote path (Some bytes)) agree can.0 (λ starts. on starts can.0)
    act_stays n (Erase path) agree can on = line_stays n (Wrote path None) agree can (λ starts. on starts can)
    act_stays n Finish agree can on = refl

  -- recipes that agree so far have agreed before
  running_before : (past : List Event) (n : ℕ) (a : Act) (es : List HistoryLine) → Can jobs tie other opening past n a → phase past n ≡ Running
      → (phase_after (a ∷ acts_of n past) ≡ Ran → Agree es (reverse (entries (a ∷ acts_of n past))))
      → (phase_after (a ∷ acts_of n past) ≡ Running → AgreeSoFar es (reverse (entries (a ∷ acts_of n past)))) → AgreeSoFar es (reverse (history past n))
  running_before past n Skip es can runs finished running = absurd (false≢true (sym (ap is_started can.ready.waits) ∙ ap is_started runs))
  running_before past n Start es can runs finished running = absurd (false≢true (sym (ap is_started can.ready.waits) ∙ ap is_started runs))
  running_before past n (Look path found) es can runs finished running = without_newest es (Looked path found) (history past n) (running runs)
  running_before past n (Put path bytes time) es can runs finished running = without_newest es (Wrote path (Some bytes)) (history past n) (running runs)
  running_before past n (Erase path) es can runs finished running = without_newest es (Wrote path None) (history past n) (running runs)
  running_before past n Finish es can runs finished running = agree_so_far es (reverse (history past n)) (finished refl)

  agree_before : (e : Event) (past : List Event) → Can jobs tie other opening past e.node e.act → RecipesAgreeSoFar seen (e ∷ past) → RecipesAgreeSoFar seen past
  agree_before e past can agree = record {
    finished = λ n starts ran. split (e.node == n)
        (λ own. absurd (false≢true (sym (open_if_can jobs tie other opening past n e.act (can_own n own)) ∙ ap is_passed ran)))
        (λ different. let on = agree.finished n starts in rw different at on ran);
    running = λ n starts runs. split (e.node == n)
        (λ own. let ended = agree.finished n starts in let on = agree.running n starts in
        running_before past n e.act (reverse (history seen n)) (can_own n own) runs (rw own at ended) (rw own at on))
        (λ different. let on = agree.running n starts in rw different at on runs);
  }
    where
      can_own : (n : ℕ) → (e.node == n) ≡ true → Can jobs tie other opening past n e.act
      can_own n own = subst (λ k. Can jobs tie other opening past k e.act) (eqb-true e.node n own) can

  pub others_stay : (past : List Event) → IsSchedule jobs tie other opening past → RecipesAgreeSoFar seen past → stays jobs past ≡ true
  others_stay [] schedule agree = refl
  others_stay (e ∷ past) schedule agree =
      let before = agree_before e past schedule.1 agree in
      let earlier = others_stay past schedule.0 before in
      let on = agree.running e.node in
      rw (act_stays past (in_rising_time jobs tie other opening past valid schedule.0 earlier) e.node e.act before schedule.1 (rw (eq-eqb e.node e.node refl) at on)) earlier

  pub outcome_alike : (past : List Event) → AgreesWith jobs opening → IsSchedule jobs tie other opening past → IsComplete jobs past → RecipesAgree seen past → SameOutcome jobs opening seen past
  outcome_alike past agrees schedule whole agree =
      let again = in_rising_time jobs tie other opening past valid schedule (others_stay past schedule (agree_all_so_far seen past agree)) in
      let same = headline jobs valid free opening tie limit other (retimed (all_times seen) seen) (retimed (all_times past) past) agrees seen_again.run again.run complete_again
      (λ n inside. ap is_passed (again.acts n).phases ∙ whole n inside)
      (λ n starts there. subst₂ (λ hs fs. Agree (reverse hs) (reverse fs)) (sym (seen_again.acts n).histories) (sym (again.acts n).histories)
      (agree n (sym (ap is_started (seen_again.acts n).phases) ∙ starts) (sym (ap is_started (again.acts n).phases) ∙ there))) in
      record {
        starts = λ n inside. sym (ap is_started (seen_again.acts n).phases) ∙ (same.starts n inside ∙ ap is_started (again.acts n).phases);
        histories = λ n inside. sym (seen_again.acts n).histories ∙ (same.histories n inside ∙ (again.acts n).histories);
        files = λ x. sym (seen_again.files x) ∙ (same.files x ∙ again.files x);
      }

pub others_stay_too : OthersStay
others_stay_too jobs tie limit other opening seen past valid free schedule_seen seen_stays complete schedule agree =
    others_stay jobs opening tie limit other valid free seen schedule_seen seen_stays complete past schedule agree

pub from_one_run : DeterminateFromOneRun
from_one_run jobs valid free opening tie limit other seen past agrees schedule_seen seen_stays complete schedule whole agree =
    outcome_alike jobs opening tie limit other valid free seen schedule_seen seen_stays complete past agrees schedule whole agree
