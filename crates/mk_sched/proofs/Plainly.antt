-- Agreeing recipes and idle recipes in plain words.
use Rattle.std.proofs.Common.{subst, reverse, slice_get, ℕ, zero, suc, ◌≡◌, ◌<◌, ◌&&◌, not, Bool, true, false, List, [], ◌∷◌, Option, Some, None, refl, sym, ap, ◌∙◌, take, is_some, is_none}
use Rattle.std.proofs.lemmas.Bool.{false≢true, and_parts, not-true, false_from_ne_true}
use Rattle.mk_jobs.specs.Jobs.{Jobs, IsValid, node_count, name_of, prerequisites_of, has_recipe, is_idle, is_phony, is_listed, is_empty}
use Rattle.mk_sched.specs.Stores.{File, Store, is_stale}
use Rattle.mk_sched.specs.Events.{Event, HistoryLine, Looked, Wrote, history, phase, is_started, store_after}
use Rattle.mk_sched.specs.Runs.{Agree, IsRun}
use Rattle.mk_sched.specs.Plain.{NextAlike, GoOnAlike, AgreeMeans, IdleIsFresh, IdleNeverStarts, ListingAgrees}
use Rattle.mk_sched.specs.Programs.{WantedStep, ToLook, ToWrite, IsDoneAs, ProgramsAgree}
use Rattle.mk_sched.specs.Serial.{EqualsSerialRun}
use Rattle.mk_sched.proofs.Basics.{started_begun}
use Rattle.mk_sched.proofs.OneRun.{own_file, decided}

agree_on : (xs ys : List HistoryLine) → Agree xs ys → GoOnAlike xs ys
agree_on [] [] agree zero shared = tt
agree_on [] [] agree (suc k) shared = tt
agree_on (e ∷ xs) (f ∷ ys) agree zero shared = agree.0
agree_on (e ∷ xs) (f ∷ ys) agree (suc k) shared =
    let same : e ≡ f = cc in
    let rest : take k xs ≡ take k ys = cc in
    agree_on xs ys (agree.1 same) k rest
agree_on [] (f ∷ ys) agree k shared = absurd agree
agree_on (e ∷ xs) [] agree k shared = absurd agree

on_agree : (xs ys : List HistoryLine) → GoOnAlike xs ys → Agree xs ys
on_agree [] [] on = tt
on_agree (e ∷ xs) (f ∷ ys) on = (on 0 refl, λ same. on_agree xs ys (λ k shared. on (suc k) (cc)))
on_agree [] (f ∷ ys) on = on 0 refl
on_agree (e ∷ xs) [] on = on 0 refl

pub agree_means : AgreeMeans
agree_means xs ys = (agree_on xs ys, on_agree xs ys)

empty_is : (xs : List ℕ) → is_empty xs ≡ true → xs ≡ []
empty_is [] empty = refl
empty_is (x ∷ xs) empty = cc

some_is : (o : Option File) → is_some o ≡ true → is_none o ≡ false
some_is None some = sym some
some_is (Some file) some = refl

there_is_fresh : (jobs : Jobs) (tie : Bool) (limit : ℕ) (opening : Store) (past : List Event) (n : ℕ) → IsValid jobs → is_some (opening (name_of jobs n)) ≡ is_listed jobs n → IsRun jobs tie limit opening past → n < node_count jobs
    → is_idle jobs n ≡ true → is_started (phase past n) ≡ false → is_stale jobs tie (store_after opening past) n ≡ false
there_is_fresh jobs tie limit opening past n valid there run inside idle unstarted =
    let most = and_parts (has_recipe jobs n && is_listed jobs n && not (is_phony jobs n)) (is_empty (prerequisites_of jobs n)) idle in
    let more = and_parts (has_recipe jobs n && is_listed jobs n) (not (is_phony jobs n)) most.0 in
    let listed = (and_parts (has_recipe jobs n) (is_listed jobs n) more.0).1 in
    let unphony : is_phony jobs n ≡ false = not-true _ more.1 in
    let own : store_after opening past (name_of jobs n) ≡ opening (name_of jobs n) = own_file jobs tie limit opening past n valid run inside unstarted in
    let some : is_none (opening (name_of jobs n)) ≡ false = some_is _ (there ∙ listed) in
    let none : prerequisites_of jobs n ≡ [] = empty_is _ most.1 in
    rw (unphony, own, some, none) refl

pub idle_is_fresh : IdleIsFresh
idle_is_fresh jobs tie limit opening past n valid agrees run inside = there_is_fresh jobs tie limit opening past n valid (agrees n inside) run inside

-- an idle recipe does not start where its own file is there
pub there_never_starts : (jobs : Jobs) (tie : Bool) (limit : ℕ) (opening : Store) (past : List Event) (n : ℕ) → IsValid jobs → is_some (opening (name_of jobs n)) ≡ is_listed jobs n → IsRun jobs tie limit opening past → n < node_count jobs
    → is_idle jobs n ≡ true → is_started (phase past n) ≡ false
there_never_starts jobs tie limit opening past n valid there run inside idle = false_from_ne_true _ (λ started.
    let d = decided jobs tie limit opening past n run (started_begun (phase past n) started) in
    let fresh = there_is_fresh jobs tie limit opening d.earlier n valid there d.run inside idle (ap is_started d.ready.waits) in
    false≢true (sym (ap (λ stale. has_recipe jobs n && stale) fresh ∙ and_false (has_recipe jobs n)) ∙ (sym d.chosen ∙ started)))
  where
    and_false : (x : Bool) → x && false ≡ false
    and_false true = refl
    and_false false = refl

pub idle_never_starts : IdleNeverStarts
idle_never_starts jobs tie limit opening past n valid agrees run inside = there_never_starts jobs tie limit opening past n valid (agrees n inside) run inside

pub listing_agrees : ListingAgrees
listing_agrees jobs listed opening same agrees n inside = agrees (name_of jobs n) ∙ sym (same n inside)

-- the answers to one request go on alike
answers_alike : (request : Option WantedStep) (e f : Option HistoryLine) → IsDoneAs request e → IsDoneAs request f → NextAlike e f
answers_alike None None None one other = tt
answers_alike None None (Some f) one other = other
answers_alike None (Some e) f one other = absurd one
answers_alike (Some (ToLook path)) (Some (Looked x seen)) (Some (Looked y reported)) one other = sym one ∙ other
answers_alike (Some (ToLook path)) (Some (Looked x seen)) (Some (Wrote y kept)) one other = absurd other
answers_alike (Some (ToLook path)) (Some (Looked x seen)) None one other = other
answers_alike (Some (ToLook path)) (Some (Wrote x kept)) f one other = absurd one
answers_alike (Some (ToLook path)) None f one other = absurd one
answers_alike (Some (ToWrite path left)) (Some (Wrote x mine)) (Some (Wrote y kept)) one other = (sym one.0 ∙ other.0, sym one.1 ∙ other.1)
answers_alike (Some (ToWrite path left)) (Some (Wrote x mine)) (Some (Looked y reported)) one other = absurd other
answers_alike (Some (ToWrite path left)) (Some (Wrote x mine)) None one other = other
answers_alike (Some (ToWrite path left)) (Some (Looked x seen)) f one other = absurd one
answers_alike (Some (ToWrite path left)) None f one other = absurd one

pub programs_agree : ProgramsAgree
programs_agree programs a b follows_a follows_b n starts_a starts_b =
    on_agree (reverse (history a n)) (reverse (history b n)) (λ k shared.
    answers_alike (programs n (take k (reverse (history a n)))) _ _ (follows_a n starts_a k)
    (subst (λ h. IsDoneAs (programs n h) (slice_get (reverse (history b n)) k)) (sym shared) (follows_b n starts_b k)))

pub equals_serial_run : EqualsSerialRun
equals_serial_run jobs tie limit opening past list determinate agrees run complete serial whole agree =
    determinate opening tie limit 1 past list agrees run serial.run complete whole agree
