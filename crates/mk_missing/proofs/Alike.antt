-- Who works afresh leaves no trace of what it found where it writes: after the same inputs it does the same, and leaves the same.
use Rattle.std.proofs.Common.{ℕ, ◌≡◌, ◌==◌, true, false, List, [], ◌∷◌, Some, None, refl, sym, ap, ◌∙◌, subst, subst₂, reverse, eqb-true, eq-eqb}
use mathlib.Core.List.{reverse_aux}
use Rattle.std.proofs.lemmas.Bool.{false≢true, false_from_ne_true}
use Rattle.std.proofs.lemmas.List.{reverse-reverse}
use Rattle.mk_name.specs.Names.{Name, same_name}
use Rattle.mk_jobs.specs.Jobs.{Jobs, may_read, may_write}
use Rattle.mk_sched.specs.Events.{Act, Start, Look, Put, Erase, Event, HistoryLine, Looked, Wrote, Running, acts_of, history, is_started, phase, phase_after}
use Rattle.mk_sched.specs.Programs.{Program, Follows, FollowsPrograms}
use Rattle.mk_sched.specs.Runs.{Agree, AlikeSteps}
use Rattle.mk_sched.proofs.Basics.{split}
use Rattle.mk_sched.proofs.Plainly.{programs_agree}
use Rattle.mk_missing.specs.Watching.{IsInput}
use Rattle.mk_missing.specs.Doings.{AreSteps, Contents, Does, IsAfresh, WritesFirst, has_write, left_by}
use Rattle.mk_missing.proofs.DoneAlone.{input_stays}
use Rattle.mk_missing.proofs.Waking.{absent_if}

-- what was written is left, whatever was there before; what was not written stays
written_alike : (start other : Contents) (es : List HistoryLine) (x : Name) → has_write x es ≡ true → left_by start es x ≡ left_by other es x
written_alike start other [] x has = absurd (false≢true has)
written_alike start other (Looked path seen ∷ es) x has = written_alike start other es x has
written_alike start other (Wrote path left ∷ es) x has = split (same_name path x)
    (λ same. rw same refl)
    (λ differ. rw differ (written_alike start other es x (rw differ at has)))

unwritten_stays : (start : Contents) (es : List HistoryLine) (x : Name) → has_write x es ≡ false → left_by start es x ≡ start x
unwritten_stays start [] x none = refl
unwritten_stays start (Looked path seen ∷ es) x none = unwritten_stays start es x none
unwritten_stays start (Wrote path left ∷ es) x none = split (same_name path x)
    (λ same. absurd (false≢true (sym none ∙ rw same refl)))
    (λ differ. rw differ (unwritten_stays start es x (rw differ at none)))

-- a past with this history of n, in which nobody else acts
abbrev act_of : HistoryLine → Act
act_of (Looked x seen) = Look x seen
act_of (Wrote x (Some bytes)) = Put x bytes 0
act_of (Wrote x None) = Erase x

abbrev past_of : ℕ → List HistoryLine → List Event
past_of n [] = record { node = n; act = Start } ∷ []
past_of n (e ∷ es) = record { node = n; act = act_of e } ∷ past_of n es

own : (n : ℕ) → (n == n) ≡ true
own n = eq-eqb n n refl

history_of : (n : ℕ) (es : List HistoryLine) → history (past_of n es) n ≡ es
history_of n [] = rw (own n) refl
history_of n (Looked x seen ∷ es) = rw (own n) (ap (λ h. Looked x seen ∷ h) (history_of n es))
history_of n (Wrote x (Some bytes) ∷ es) = rw (own n) (ap (λ h. Wrote x (Some bytes) ∷ h) (history_of n es))
history_of n (Wrote x None ∷ es) = rw (own n) (ap (λ h. Wrote x None ∷ h) (history_of n es))

runs_there : (n : ℕ) (es : List HistoryLine) → phase (past_of n es) n ≡ Running
runs_there n [] = rw (own n) refl
runs_there n (Looked x seen ∷ es) = rw (own n) (runs_there n es)
runs_there n (Wrote x (Some bytes) ∷ es) = rw (own n) (runs_there n es)
runs_there n (Wrote x None ∷ es) = rw (own n) (runs_there n es)

idle_there : (n m : ℕ) (es : List HistoryLine) → (n == m) ≡ false → acts_of m (past_of n es) ≡ []
idle_there n m [] other = rw other refl
idle_there n m (e ∷ es) other = rw other (idle_there n m es other)

follows_there : (programs : ℕ → Program) (n : ℕ) (es : List HistoryLine) → Follows (programs n) (reverse es) → FollowsPrograms programs (past_of n es)
follows_there programs n es follows m started = split (n == m)
    (λ same. subst (λ k. Follows (programs k) (reverse (history (past_of n es) k))) (eqb-true n m same) (subst (λ h. Follows (programs n) (reverse h)) (sym (history_of n es)) follows))
    (λ other. absurd (false≢true (sym (ap (λ acts. is_started (phase_after acts)) (idle_there n m es other)) ∙ started)))

-- so two doings of one program agree
pub doings_agree : (programs : ℕ → Program) (n : ℕ) (es fs : List HistoryLine) → Follows (programs n) (reverse es) → Follows (programs n) (reverse fs) → Agree (reverse es) (reverse fs)
doings_agree programs n es fs one two =
    subst₂ (λ h k. Agree (reverse h) (reverse k)) (history_of n es) (history_of n fs)
    (programs_agree programs (past_of n es) (past_of n fs) (follows_there programs n es one) (follows_there programs n fs two) n (ap is_started (runs_there n es)) (ap is_started (runs_there n fs)))

module _ (jobs : Jobs) (n : ℕ) (start other : Contents) (inputs : (x : Name) → IsInput jobs n x → start x ≡ other x) where
  -- after the same entries a look finds the same
  seen_alike : (es : List HistoryLine) (x : Name) → AreSteps jobs n start es → AreSteps jobs n other es → may_read jobs n x ≡ true → (may_write jobs n x ≡ true → has_write x es ≡ true) → left_by start es x ≡ left_by other es x
  seen_alike es x one two reads first = split (may_write jobs n x)
      (λ writes. written_alike start other es x (first writes))
      (λ foreign. input_stays jobs n start es x one foreign ∙ inputs x (record { reads = reads; foreign = foreign }) ∙ sym (input_stays jobs n other es x two foreign))

  -- so the next steps are the same, if they are alike
  pub step_alike : (e f : HistoryLine) (es : List HistoryLine) → AreSteps jobs n start (e ∷ es) → AreSteps jobs n other (f ∷ es) → WritesFirst jobs n (e ∷ es) → AlikeSteps e f → e ≡ f
  step_alike (Looked x s) (Looked y t) es one two first alike =
      let found : t ≡ left_by other es x = two.1.1 ∙ ap (left_by other es) (sym alike) in
      let same : s ≡ t = one.1.1 ∙ seen_alike es x one.0 two.0 one.1.0 first.1 ∙ sym found in
      cc
  step_alike (Wrote x left) (Wrote y kept) es one two first alike = cc
  step_alike (Looked x s) (Wrote y kept) es one two first alike = absurd alike
  step_alike (Wrote x left) (Looked y t) es one two first alike = absurd alike

  -- what holds of the whole held before
  pub steps_before : (from : Contents) (xs es : List HistoryLine) → AreSteps jobs n from (reverse_aux xs es) → AreSteps jobs n from es
  steps_before from [] es steps = steps
  steps_before from (e ∷ xs) es steps = (steps_before from xs (e ∷ es) steps).0

  first_drop : (e : HistoryLine) (es : List HistoryLine) → WritesFirst jobs n (e ∷ es) → WritesFirst jobs n es
  first_drop (Looked x s) es first = first.0
  first_drop (Wrote x left) es first = first

  pub first_before : (xs es : List HistoryLine) → WritesFirst jobs n (reverse_aux xs es) → WritesFirst jobs n es
  first_before [] es first = first
  first_before (e ∷ xs) es first = first_drop e es (first_before xs (e ∷ es) first)

  -- and so is all that follows
  go_on : (es xs ys : List HistoryLine) → AreSteps jobs n start (reverse_aux xs es) → AreSteps jobs n other (reverse_aux ys es) → WritesFirst jobs n (reverse_aux xs es) → Agree xs ys → xs ≡ ys
  go_on es [] [] one two first agree = refl
  go_on es (e ∷ xs) (f ∷ ys) one two first agree =
      let same = step_alike e f es (steps_before start xs (e ∷ es) one) (steps_before other ys (f ∷ es) two) (first_before xs (e ∷ es) first) agree.0 in
      let rest = go_on (e ∷ es) xs ys one (subst (λ d. AreSteps jobs n other (reverse_aux ys (d ∷ es))) (sym same) two) first (agree.1 same) in
      cc
  go_on es [] (f ∷ ys) one two first agree = absurd agree
  go_on es (e ∷ xs) [] one two first agree = absurd agree

  same_history : (programs : ℕ → Program) (es fs : List HistoryLine) → Does jobs programs n start es → Does jobs programs n other fs → WritesFirst jobs n es → es ≡ fs
  same_history programs es fs one two first =
      let same = go_on [] (reverse es) (reverse fs) (subst (AreSteps jobs n start) (sym (reverse-reverse es)) one.steps) (subst (AreSteps jobs n other) (sym (reverse-reverse fs)) two.steps)
      (subst (WritesFirst jobs n) (sym (reverse-reverse es)) first) (doings_agree programs n es fs one.follows two.follows) in
      sym (reverse-reverse es) ∙ (ap reverse same ∙ reverse-reverse fs)

-- where something was not written, nothing was
absent_before : (jobs : Jobs) (n : ℕ) (start : Contents) (es : List HistoryLine) (x : Name) → IsAfresh jobs n start es → may_write jobs n x ≡ true → has_write x es ≡ false → start x ≡ None
absent_before jobs n start es x afresh writes none = absent_if (start x) (false_from_ne_true _ (λ some. false≢true (sym none ∙ afresh.rest x writes some)))

pub left_alike : (jobs : Jobs) (programs : ℕ → Program) (n : ℕ) (start other : Contents) (es fs : List HistoryLine) → Does jobs programs n start es → Does jobs programs n other fs
    → IsAfresh jobs n start es → IsAfresh jobs n other fs → ((x : Name) → IsInput jobs n x → start x ≡ other x) → (x : Name) → may_write jobs n x ≡ true → left_by start es x ≡ left_by other fs x
left_alike jobs programs n start other es fs one two afresh again inputs x writes =
    let same = same_history jobs n start other inputs programs es fs one two afresh.first in
    split (has_write x es)
    (λ written. written_alike start other es x written ∙ ap (λ h. left_by other h x) same)
    (λ none.
    let none_too : has_write x fs ≡ false = ap (has_write x) (sym same) ∙ none in
    unwritten_stays start es x none ∙ absent_before jobs n start es x afresh writes none ∙ sym (unwritten_stays other fs x none_too ∙ absent_before jobs n other fs x again writes none_too))
