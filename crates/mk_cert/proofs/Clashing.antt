-- What a clash on a path, the phases and the steps that pass give.
use Rattle.std.proofs.Common.{ℕ, ◌≡◌, ◌≢◌, ◌==◌, ◌&&◌, ◌||◌, nat_lt, true, false, List, [], ◌∷◌, refl, sym, ap, inl, inr, ltb-true, eq-eqb, ne_eqb, eqb-true, subst}
use Rattle.std.specs.List.{list_all}
use Rattle.std.proofs.lemmas.Bool.{and_from, and_parts, false≢true, or_cases, or_left, or_right}
use Rattle.mk_path.specs.declared.path.Path.{Path}
use Rattle.mk_path.specs.Paths.{covered, covers, is_over}
use Rattle.mk_path.proofs.Overs.{over_covers_name}
use Rattle.mk_jobs.specs.Jobs.{Jobs, Clash, is_live, may_read, may_touch, may_write, node_count, prerequisites_of, reads_of, writes_of}
use Rattle.mk_jobs.specs.Laws.{AreLive}
use Rattle.mk_jobs.proofs.JobsLemmas.{clash_live}
use Rattle.mk_sched.specs.Events.{Event, Phase, Waiting, Running, Skipped, Ran, phase, is_passed, is_running, running_below}
use Rattle.mk_sched.specs.Events.Act.{Skip as skip, Start as start, Finish as finish}
use Rattle.mk_sched.proofs.Basics.{split}
use Rattle.mk_sched.proofs.Moving.{count_to-same, count_to-more}
use Rattle.mk_cert.specs.Traces.{ClashesOn, some_over, touches_over, writes_over}
use Rattle.mk_cert.specs.Sure.{is_waiting, is_ready, passes}
use Rattle.mk_cert.specs.Laws.{StepMoves}
use Rattle.mk_proof.specs.declared.step.Step.TheVariants.{Skip, Start, Finish}

-- ---- a clash on a path

-- what lies under one of these paths has a name that they cover
some_covered : (root : List ℕ) (paths : List Path) (p : Path) → some_over root paths p ≡ true → covered root paths p.name ≡ true
some_covered root [] p over = absurd (false≢true over)
some_covered root (q ∷ paths) p over = elim (or_cases (is_over root q p) _ over) [
  | inl here ↦ ap (λ b. b || covered root paths p.name) (over_covers_name root q p here)
  | inr later ↦ or_right (covers root q p.name) _ (some_covered root paths p later)
]

reads_covered : (jobs : Jobs) (n : ℕ) (p : Path) → is_live jobs n ≡ true → some_over jobs.root (reads_of jobs n) p ≡ true → may_read jobs n p.name ≡ true
unfolding may_read
reads_covered jobs n p live over = and_from _ _ live (some_covered jobs.root (reads_of jobs n) p over)

pub writes_covered : (jobs : Jobs) (n : ℕ) (p : Path) → writes_over jobs n p ≡ true → may_write jobs n p.name ≡ true
unfolding may_write
writes_covered jobs n p over =
    let parts = and_parts (is_live jobs n) (some_over jobs.root (writes_of jobs n) p) over in
    and_from _ _ parts.0 (some_covered jobs.root (writes_of jobs n) p parts.1)

pub touches_covered : (jobs : Jobs) (n : ℕ) (p : Path) → touches_over jobs n p ≡ true → may_touch jobs n p.name ≡ true
touches_covered jobs n p over =
    let parts = and_parts (is_live jobs n) (some_over jobs.root (reads_of jobs n) p || some_over jobs.root (writes_of jobs n) p) over in
    elim (or_cases (some_over jobs.root (reads_of jobs n) p) _ parts.1) [
      | inl reads ↦ or_left (may_read jobs n p.name) _ (reads_covered jobs n p parts.0 reads)
      | inr writes ↦ or_right (may_read jobs n p.name) _ (writes_covered jobs n p (and_from _ _ parts.0 writes))
    ]

-- nodes that clash on a path clash on its name
pub a_clash : {jobs : Jobs} {a b : ℕ} {path : List ℕ} → ClashesOn jobs a b path → Clash jobs a b
a_clash {jobs} {a} {b} clash =
    let p = clash.path in
    let parts = and_parts (touches_over jobs a p && touches_over jobs b p) (writes_over jobs a p || writes_over jobs b p) clash.clash in
    let both = and_parts (touches_over jobs a p) (touches_over jobs b p) parts.0 in (
      p.name,
      record {
        different = clash.different;
        first = touches_covered jobs a p both.0;
        second = touches_covered jobs b p both.1;
        written = elim (or_cases (writes_over jobs a p) _ parts.1) [
          | inl left ↦ or_left (may_write jobs a p.name) _ (writes_covered jobs a p left)
          | inr right ↦ or_right (may_write jobs a p.name) _ (writes_covered jobs b p right)
        ];
      },
    )

pub both_live : {jobs : Jobs} {a b : ℕ} {path : List ℕ} → ClashesOn jobs a b path → AreLive jobs a b
both_live clash = clash_live (a_clash clash).1

pub apart : {jobs : Jobs} {a b : ℕ} {path : List ℕ} → ClashesOn jobs a b path → a ≢ b
apart clash = clash.different

-- ---- phases

pub waits_is : (p : Phase) → is_waiting p ≡ true → p ≡ Waiting
waits_is Waiting is = refl
waits_is Running is = absurd (false≢true is)
waits_is Skipped is = absurd (false≢true is)
waits_is Ran is = absurd (false≢true is)

pub runs_is : (p : Phase) → is_running p ≡ true → p ≡ Running
runs_is Waiting is = absurd (false≢true is)
runs_is Running is = refl
runs_is Skipped is = absurd (false≢true is)
runs_is Ran is = absurd (false≢true is)

-- ---- who is ready

-- the parts of the test
pub ready_parts : (jobs : Jobs) (phases : ℕ → Phase) (n : ℕ) → is_ready jobs phases n ≡ true
    → (nat_lt n (node_count jobs) ≡ true) × (phases n ≡ Waiting) × (list_all (λ p. is_passed (phases p)) (prerequisites_of jobs n) ≡ true)
ready_parts jobs phases n ready =
    let front = and_parts (nat_lt n (node_count jobs) && is_waiting (phases n)) (list_all (λ p. is_passed (phases p)) (prerequisites_of jobs n)) ready in
    let pair = and_parts (nat_lt n (node_count jobs)) (is_waiting (phases n)) front.0 in
    (pair.0, waits_is (phases n) pair.1, front.1)

-- ---- the number of running nodes

-- a skip of a node that waits
skip_moves : (jobs : Jobs) (past : List Event) (n : ℕ) → phase past n ≡ Waiting
    → running_below (record { node = n; act = skip } ∷ past) (node_count jobs) ≡ running_below past (node_count jobs)
skip_moves jobs past n waits = count_to-same _ _ (node_count jobs) (λ k below. split (n == k)
    (λ own. rw own (subst (λ m. false ≡ is_running (phase past m)) (eqb-true n k own) (sym (ap is_running waits))))
    (λ other. rw other refl))

pub start_moves : (jobs : Jobs) (past : List Event) (n : ℕ) → nat_lt n (node_count jobs) ≡ true → phase past n ≡ Waiting
    → running_below (record { node = n; act = start } ∷ past) (node_count jobs) ≡ ℕ.suc (running_below past (node_count jobs))
start_moves jobs past n below waits = count_to-more _ _ (node_count jobs) n (ltb-true _ _ below) (ap is_running waits) (rw (eq-eqb n n refl) refl)
    (λ k different. rw (ne_eqb n k (λ same. different (sym same))) refl)

finish_moves : (jobs : Jobs) (past : List Event) (n : ℕ) → nat_lt n (node_count jobs) ≡ true → is_running (phase past n) ≡ true
    → ℕ.suc (running_below (record { node = n; act = finish } ∷ past) (node_count jobs)) ≡ running_below past (node_count jobs)
finish_moves jobs past n below runs = sym (count_to-more _ _ (node_count jobs) n (ltb-true _ _ below) (rw (eq-eqb n n refl) refl) runs
    (λ k different. rw (ne_eqb n k (λ same. different (sym same))) refl))

pub moves : StepMoves
moves jobs times past (Skip n) passes =
    skip_moves jobs past n (ready_parts jobs (phase past) n (and_parts _ _ passes).0).1
moves jobs times past (Start n) passes =
    let three = and_parts _ _ passes in
    let two = and_parts _ _ three.0 in
    let ready = ready_parts jobs (phase past) n (and_parts _ _ two.0).0 in
    start_moves jobs past n ready.0 ready.1
moves jobs times past (Finish n) passes =
    let two = and_parts (nat_lt n (node_count jobs)) (is_running (phase past n)) passes in
    finish_moves jobs past n two.0 two.1
