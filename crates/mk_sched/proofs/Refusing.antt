-- An act is allowed exactly where none of its refusals holds.
use Rattle.std.proofs.Common.{ℕ, ◌≡◌, ◌<◌, ◌≤◌, ◌||◌, ◌&&◌, not, Bool, true, false, List, [], ◌∷◌, Option, Some, None, refl, sym, ap, ◌∙◌, subst, arith, inl, inr, ◌⊎◌, Contains, get_or}
use Rattle.std.specs.List.{list_any}
use Rattle.std.proofs.lemmas.Bool.{false≢true, cases_order, or_parts}
use Rattle.std.proofs.lemmas.List.Elements.{Contains-get_or}
use Rattle.std.proofs.lemmas.List.Folds.{list_any_at, list_any_none}
use Rattle.mk_name.specs.Names.{same_name}
use Rattle.mk_jobs.specs.Jobs.{Jobs, node_count, prerequisites_of, has_recipe, may_read, may_write}
use Rattle.mk_sched.specs.Stores.{Bytes, bytes_of, is_stale}
use Rattle.mk_sched.specs.Events.{Act, Skip, Start, Look, Put, Erase, Finish, count_to}
use Rattle.mk_sched.specs.Table.{State, IsAllowed, CanBegin}
use Rattle.mk_sched.specs.Refusals.{Finds, Holds, asked}
use Rattle.mk_sched.specs.declared.refusal.Refusal.{Refusal}
use Rattle.mk_sched.specs.declared.refusal.Refusal.TheVariants.{NotReady, NotStale, Stale, NoRecipe, TwicePassed, NotRunning, OutsideFootprint, WrongBytes, NotNewer, TooManyJobs, NoNode}
use Rattle.mk_sched.specs.Events.{Phase, Waiting, Running, Skipped, Ran, phase, is_running}
use Rattle.mk_sched.specs.Refused.{AllowedUnlessRefused}
use Rattle.mk_sched.specs.Table.{reported_by}
use Rattle.mk_sched.proofs.Basics.{split, same_name-true, same_name-refl, is_begun}
use Rattle.mk_sched.proofs.ByTable.{state_reported, may_is_table}
use Rattle.mk_sched.proofs.Moving.{in_jobs}

none_some : {X A : Type 0} (x : X) → None ≡ Some x → A
none_some x e = absurd (cc e)

-- where none is found the first does not hold, and none of the others is found
peel : (holds : Refusal → Type 0) (r : Refusal) (rs : List Refusal) → Finds holds (r ∷ rs) None → (holds r → ⊥) × Finds holds rs None
peel holds r rs finds = elim finds [
  | inl found ↦ none_some r found.1
  | inr later ↦ later
]

-- nothing is found and not found
pub one_answer : (holds : Refusal → Type 0) (rs : List Refusal) (r : Refusal) → Finds holds rs None → Finds holds rs (Some r) → ⊥
one_answer holds [] r none some = none_some r (sym some)
one_answer holds (x ∷ rs) r none some =
    let rest = peel holds x rs none in
    elim some [
      | inl found ↦ rest.0 found.0
      | inr later ↦ one_answer holds rs r rest.1 later.1
    ]

-- what is not false is true
granted : (b : Bool) → (b ≡ false → ⊥) → b ≡ true
granted true h = refl
granted false h = absurd (h refl)

refused : (b : Bool) → (b ≡ true → ⊥) → b ≡ false
refused true h = absurd (h refl)
refused false h = refl

below : (n m : ℕ) → (m ≤ n → ⊥) → n < m
below n m h = elim (cases_order n m) [
  | inl same ↦ absurd (h (omega (arith, same)))
  | inr (inl less) ↦ less
  | inr (inr more) ↦ absurd (h (omega (arith, more)))
]

-- a test that none of some elements passes is failed by each
each_fails : (test : ℕ → Bool) (xs : List ℕ) (x : ℕ) → list_any test xs ≡ false → Contains xs x → test x ≡ false
each_fails test xs x none inside = refused (test x) (λ passes. false≢true (sym none ∙ list_any_at test xs inside.0 x inside.1 (subst (λ (y : ℕ). test y ≡ true) (sym inside.2) passes)))

-- what is seen is what stands there, if it cannot be otherwise
seen_is : (seen stands : Option Bytes) → ((seen ≡ stands → ⊥) → ⊥) → seen ≡ stands
seen_is None None h = refl
seen_is (Some xs) None h = absurd (h (λ e. none_some xs (sym e)))
seen_is None (Some ys) h = absurd (h (λ e. none_some ys e))
seen_is (Some xs) (Some ys) h = split (same_name xs ys) (λ same. ap Some (same_name-true xs ys same))
    (λ other. absurd (h (λ e. false≢true (sym other ∙ sym (λ i. same_name xs (some_is ys (e i))) ∙ same_name-refl xs))))
  where
    some_is : Bytes → Option Bytes → Bytes
    some_is d None = d
    some_is d (Some zs) = zs

module _ (jobs : Jobs) (tie : Bool) (limit : ℕ) (s : State) (n : ℕ) where
  begins : (a : Act) (rest : List Refusal) → Finds (Holds jobs tie limit s n a) (NoNode ∷ TwicePassed ∷ NotReady ∷ rest) None
      → CanBegin jobs s n × Finds (Holds jobs tie limit s n a) rest None
  begins a rest f =
      let one = peel (Holds jobs tie limit s n a) NoNode (TwicePassed ∷ NotReady ∷ rest) f in
      let two = peel (Holds jobs tie limit s n a) TwicePassed (NotReady ∷ rest) one.1 in
      let three = peel (Holds jobs tie limit s n a) NotReady rest two.1 in
      let fresh : (s.passed n || s.running n) ≡ false = refused (s.passed n || s.running n) two.0 in (
        record {
          in_jobs = below n (node_count jobs) one.0;
          not_passed = (or_parts (s.passed n) (s.running n) fresh).0;
          not_running = (or_parts (s.passed n) (s.running n) fresh).1;
          prerequisites = λ p inside. granted (s.passed p) (λ fails. false≢true (sym (each_fails (λ q. not (s.passed q)) (prerequisites_of jobs n) p (refused _ three.0) inside) ∙ ap not fails));
        },
        three.1,
      )

  node_if : (a : Act) (rest : List Refusal) → Finds (Holds jobs tie limit s n a) (NoNode ∷ rest) None → n < node_count jobs
  node_if a rest f = below n (node_count jobs) (peel (Holds jobs tie limit s n a) NoNode rest f).0

  pub node_asked : (a : Act) → Finds (Holds jobs tie limit s n a) (asked a) None → n < node_count jobs
  node_asked Skip f = node_if Skip (TwicePassed ∷ NotReady ∷ Stale ∷ []) f
  node_asked Start f = node_if Start (TwicePassed ∷ NotReady ∷ NoRecipe ∷ NotStale ∷ TooManyJobs ∷ []) f
  node_asked (Look path seen) f = node_if (Look path seen) (NotRunning ∷ OutsideFootprint ∷ WrongBytes ∷ []) f
  node_asked (Put path bytes time) f = node_if (Put path bytes time) (NotRunning ∷ OutsideFootprint ∷ NotNewer ∷ []) f
  node_asked (Erase path) f = node_if (Erase path) (NotRunning ∷ OutsideFootprint ∷ []) f
  node_asked Finish f = node_if Finish (NotRunning ∷ []) f

  runs_within : (a : Act) (rest : List Refusal) → Finds (Holds jobs tie limit s n a) (NoNode ∷ NotRunning ∷ rest) None → (s.running n ≡ true) × Finds (Holds jobs tie limit s n a) rest None
  runs_within a rest f =
      let one = peel (Holds jobs tie limit s n a) NoNode (NotRunning ∷ rest) f in
      let two = peel (Holds jobs tie limit s n a) NotRunning rest one.1 in
      (granted (s.running n) two.0, two.1)

  skip_or : (r st : Bool) → (r && st) ≡ false → (r ≡ false) ⊎ (st ≡ false)
  skip_or false st h = inl refl
  skip_or true st h = inr h

  -- where no refusal is found the act is allowed
  pub allowed : (a : Act) → Finds (Holds jobs tie limit s n a) (asked a) None → IsAllowed jobs tie limit s n a
  allowed Skip f =
      let b = begins Skip (Stale ∷ []) f in
      let fresh = (peel (Holds jobs tie limit s n Skip) Stale [] b.1).0 in
      (b.0, skip_or (has_recipe jobs n) (is_stale jobs tie s.store n) (refused _ fresh))
  allowed Start f =
      let b = begins Start (NoRecipe ∷ NotStale ∷ TooManyJobs ∷ []) f in
      let one = peel (Holds jobs tie limit s n Start) NoRecipe (NotStale ∷ TooManyJobs ∷ []) b.1 in
      let two = peel (Holds jobs tie limit s n Start) NotStale (TooManyJobs ∷ []) one.1 in
      let three = peel (Holds jobs tie limit s n Start) TooManyJobs [] two.1 in
      (b.0, granted (has_recipe jobs n) one.0, granted (is_stale jobs tie s.store n) two.0, below (count_to s.running (node_count jobs)) limit three.0)
  allowed (Look path seen) f =
      let r = runs_within (Look path seen) (OutsideFootprint ∷ WrongBytes ∷ []) f in
      let one = peel (Holds jobs tie limit s n (Look path seen)) OutsideFootprint (WrongBytes ∷ []) r.1 in
      let two = peel (Holds jobs tie limit s n (Look path seen)) WrongBytes [] one.1 in
      (r.0, granted (may_read jobs n path) one.0, seen_is seen (bytes_of (s.store path)) two.0)
  allowed (Put path bytes time) f =
      let r = runs_within (Put path bytes time) (OutsideFootprint ∷ NotNewer ∷ []) f in
      let one = peel (Holds jobs tie limit s n (Put path bytes time)) OutsideFootprint (NotNewer ∷ []) r.1 in
      let two = peel (Holds jobs tie limit s n (Put path bytes time)) NotNewer [] one.1 in
      (r.0, granted (may_write jobs n path) one.0, λ x file at. below file.time time (λ late. two.0 (λ newest. omega (arith, late, newest x file at))))
  allowed (Erase path) f =
      let r = runs_within (Erase path) (OutsideFootprint ∷ []) f in
      let one = peel (Holds jobs tie limit s n (Erase path)) OutsideFootprint [] r.1 in
      (r.0, granted (may_write jobs n path) one.0)
  allowed Finish f = (runs_within Finish [] f).0

  begins_fresh : (a : Act) (rest : List Refusal) → CanBegin jobs s n → Finds (Holds jobs tie limit s n a) rest None → Finds (Holds jobs tie limit s n a) (NoNode ∷ TwicePassed ∷ NotReady ∷ rest) None
  begins_fresh a rest b f =
      let inside = b.in_jobs in
      inr (
        λ past. omega (arith, past, inside),
        inr (
          λ begun. false≢true (sym (rw (b.not_passed, b.not_running) refl) ∙ begun),
          inr (λ some. unready some, f),
        ),
      )
    where
      unready : list_any (λ p. not (s.passed p)) (prerequisites_of jobs n) ≡ true → ⊥
      unready some = false≢true (sym (list_any_none (λ p. not (s.passed p)) (prerequisites_of jobs n) (λ k d within. ap not (b.prerequisites (get_or (prerequisites_of jobs n) k d) (Contains-get_or (prerequisites_of jobs n) k d within)))) ∙ some)

  runs_on : (a : Act) (rest : List Refusal) → n < node_count jobs → s.running n ≡ true → Finds (Holds jobs tie limit s n a) rest None → Finds (Holds jobs tie limit s n a) (NoNode ∷ NotRunning ∷ rest) None
  runs_on a rest node runs f = inr (λ past. omega (arith, past, node), inr (λ still. false≢true (sym still ∙ runs), f))

  stale_not : (r st : Bool) → (r ≡ false) ⊎ (st ≡ false) → (r && st) ≡ true → ⊥
  stale_not false st h both = false≢true both
  stale_not true st (inl h) both = false≢true (sym h)
  stale_not true st (inr h) both = false≢true (sym h ∙ both)

  -- where the act is allowed, and who runs is a node, no refusal is found
  pub none_holds : (a : Act) → (s.running n ≡ true → n < node_count jobs) → IsAllowed jobs tie limit s n a → Finds (Holds jobs tie limit s n a) (asked a) None
  none_holds Skip node h = begins_fresh Skip (Stale ∷ []) h.0 (inr (stale_not (has_recipe jobs n) (is_stale jobs tie s.store n) h.1, refl))
  none_holds Start node h = begins_fresh Start (NoRecipe ∷ NotStale ∷ TooManyJobs ∷ []) h.0
      (inr (λ no. false≢true (sym no ∙ h.1), inr (λ no. false≢true (sym no ∙ h.2), inr (λ full. omega (arith, full, h.3), refl))))
  none_holds (Look path seen) node h = runs_on (Look path seen) (OutsideFootprint ∷ WrongBytes ∷ []) (node h.0) h.0
      (inr (λ no. false≢true (sym no ∙ h.1), inr (λ no. no h.2, refl)))
  none_holds (Put path bytes time) node h = runs_on (Put path bytes time) (OutsideFootprint ∷ NotNewer ∷ []) (node h.0) h.0
      (inr (λ no. false≢true (sym no ∙ h.1), inr (λ no. no h.2, refl)))
  none_holds (Erase path) node h = runs_on (Erase path) (OutsideFootprint ∷ []) (node h.0) h.0 (inr (λ no. false≢true (sym no ∙ h.1), refl))
  none_holds Finish node h = runs_on Finish [] (node h) h refl

is_begun_running : (phase : Phase) → is_running phase ≡ true → is_begun phase ≡ true
is_begun_running Waiting h = absurd (false≢true h)
is_begun_running Running h = refl
is_begun_running Skipped h = refl
is_begun_running Ran h = refl

pub allowed_unless_refused : AllowedUnlessRefused
allowed_unless_refused jobs tie limit opening past n a run = (
  (λ may. none_holds jobs tie limit (reported_by opening past) n a (λ runs. in_jobs jobs tie limit opening past n run (is_begun_running (phase past n) runs))
      (subst (λ (s : State). IsAllowed jobs tie limit s n a) (state_reported jobs tie limit opening past run) ((may_is_table jobs tie limit opening past n a run).0 may))),
  (λ none. (may_is_table jobs tie limit opening past n a run).1
      (subst (λ (s : State). IsAllowed jobs tie limit s n a) (sym (state_reported jobs tie limit opening past run)) (allowed jobs tie limit (reported_by opening past) n a none))),
)
