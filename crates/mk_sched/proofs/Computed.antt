-- The worked cases, computed.
use Rattle.std.proofs.Common.{ℕ, zero, suc, ◌≡◌, ◌<◌, ◌≤◌, ◌⊎◌, inl, inr, Bool, true, false, List, [], ◌∷◌, reverse, Some, refl, sym, ap, ◌∙◌, if◌then◌else◌, Contains, length, slice_index_or, subst, ◌==◌, subst₂, nat_lt, arith, eqb-true, eq-eqb, ltb-true}
use Rattle.std.specs.List.{list_all}
use Rattle.std.proofs.lemmas.Bool.{false≢true, and_parts}
use Rattle.mk_name.specs.Names.{Name, same_name}
use Rattle.mk_path.specs.declared.path.Path.{Path}
use Rattle.mk_jobs.specs.Jobs.{Before, Clash, edge, further, IsValid, IsRaceFree, IsPrerequisite, node_count, name_of, prerequisites_of, has_recipe, is_phony, is_listed, is_live, reads_of, writes_of, may_read, may_write}
use Rattle.mk_jobs.proofs.JobsLemmas.{clash_live}
use Rattle.mk_sched.specs.Stores.{Bytes, File, Store}
use Rattle.mk_sched.specs.Events.{Skip, Start, phase, is_started, history}
use Rattle.mk_sched.specs.Runs.{IsRun, Agree}
use Rattle.mk_sched.specs.Serial.{IsLast}
use Rattle.mk_sched.specs.Table.{AllowedInTurn, start_from}
use Rattle.mk_sched.specs.MissingHeader.{gen_sh, gen_h, a_c, a_o, file, header_jobs, missing_header, header_named, two_sources, by, header_first, object_first, BothOrders, MissingHeaderRaces, HeaderNamedIsSafe}
use Rattle.mk_sched.specs.SmallCases.{two_files, same_age, EqualTimes, InterleavedInOrder}
use Rattle.mk_sched.proofs.Basics.{split, started_begun}
use Rattle.mk_sched.proofs.ByTable.{runs_by_table}
use Rattle.mk_sched.proofs.Moving.{in_jobs}
use Rattle.mk_sched.proofs.Determinate.{headline}

-- a test that passes at all elements passes at each
each_at : (test : ℕ → Bool) (xs : List ℕ) (k x : ℕ) → k < length xs → slice_index_or xs k x ≡ x → list_all test xs ≡ true → test x ≡ true
each_at test [] k x below is passes = absurd (omega arith)
each_at test (y ∷ ys) zero x below is passes = ap test (sym is) ∙ (and_parts _ _ passes).0
each_at test (y ∷ ys) (suc k) x below is passes = each_at test ys k x (omega arith) is (and_parts _ _ passes).1

pub each_passes : (test : ℕ → Bool) (xs : List ℕ) → list_all test xs ≡ true → (x : ℕ) → Contains xs x → test x ≡ true
each_passes test xs passes x inside = each_at test xs inside.0 x inside.1 inside.2 passes

nothing_in : (x : ℕ) → Contains [] x → ⊥
nothing_in x inside = let below = inside.1 in omega arith

only_in : (y x : ℕ) → Contains (y ∷ []) x → y ≡ x
only_in y x inside = eqb-true y x (each_passes (λ z. y == z) (y ∷ []) (rw (eq-eqb y y refl) refl) x inside)

pub later_than : (last : ℕ) (store : Store) → IsLast last store → (x : Name) (file : File) → store x ≡ Some file → file.time < suc last
later_than last store is_last x file is = let low = is_last x file is in omega arith

pub put_last : (path : Name) (bytes : Bytes) (time last : ℕ) (store : Store) → IsLast last store → last ≤ time → IsLast time (λ x. if same_name path x then Some (record { bytes = bytes; time = time }) else store x)
put_last path bytes time last store is_last le x file is = split (same_name path x)
    (λ same. let here : file.time ≡ time = cc (rw same at is) in omega arith)
    (λ other. let low = is_last x file (rw other at is) in omega arith)

pub sources_last : IsLast 1 two_sources
sources_last x file is = split (same_name gen_sh x)
    (λ same. let here : file.time ≡ 1 = cc (rw same at is) in omega arith)
    (λ other. split (same_name a_c x)
    (λ same. let here : file.time ≡ 1 = cc (rw (other, same) at is) in omega arith)
    (λ neither. cc (rw (other, neither) at is)))

header_allowed : AllowedInTurn missing_header false 1 (start_from two_sources) header_first
unfolding node_count prerequisites_of has_recipe is_phony is_listed reads_of writes_of may_read may_write name_of
header_allowed = (
  (record { in_jobs = omega arith; not_passed = refl; not_running = refl; prerequisites = each_passes _ [] refl }, inl refl),
  (
    (record { in_jobs = omega arith; not_passed = refl; not_running = refl; prerequisites = each_passes _ [] refl }, inl refl),
    (
      (record { in_jobs = omega arith; not_passed = refl; not_running = refl; prerequisites = each_passes _ (0 ∷ []) refl }, refl, refl, omega arith),
      (
        (refl, refl, later_than 1 _ sources_last),
        (
          refl,
          (
            (record { in_jobs = omega arith; not_passed = refl; not_running = refl; prerequisites = each_passes _ (2 ∷ []) refl }, refl, refl, omega arith),
            (
              (refl, refl, refl),
              (
                (refl, refl, later_than 2 _ (put_last gen_h (103 ∷ []) 2 1 two_sources sources_last (omega arith))),
                (
                  refl,
                  (
                    (record { in_jobs = omega arith; not_passed = refl; not_running = refl; prerequisites = each_passes _ (1 ∷ 3 ∷ []) refl }, inl refl),
                    tt,
                  ),
                ),
              ),
            ),
          ),
        ),
      ),
    ),
  ),
)

object_allowed : AllowedInTurn missing_header false 1 (start_from two_sources) object_first
unfolding node_count prerequisites_of has_recipe is_phony is_listed reads_of writes_of may_read may_write name_of
object_allowed = (
  (record { in_jobs = omega arith; not_passed = refl; not_running = refl; prerequisites = each_passes _ [] refl }, inl refl),
  (
    (record { in_jobs = omega arith; not_passed = refl; not_running = refl; prerequisites = each_passes _ [] refl }, inl refl),
    (
      (record { in_jobs = omega arith; not_passed = refl; not_running = refl; prerequisites = each_passes _ (2 ∷ []) refl }, refl, refl, omega arith),
      (
        (refl, refl, refl),
        (
          (refl, refl, later_than 1 _ sources_last),
          (
            refl,
            (
              (record { in_jobs = omega arith; not_passed = refl; not_running = refl; prerequisites = each_passes _ (0 ∷ []) refl }, refl, refl, omega arith),
              (
                (refl, refl, later_than 2 _ (put_last a_o (111 ∷ []) 2 1 two_sources sources_last (omega arith))),
                (
                  refl,
                  (
                    (record { in_jobs = omega arith; not_passed = refl; not_running = refl; prerequisites = each_passes _ (1 ∷ 3 ∷ []) refl }, inl refl),
                    tt,
                  ),
                ),
              ),
            ),
          ),
        ),
      ),
    ),
  ),
)

header_run : IsRun missing_header false 1 two_sources (reverse header_first)
header_run = (runs_by_table missing_header false 1 two_sources header_first).1 header_allowed

object_run : IsRun missing_header false 1 two_sources (reverse object_first)
object_run = (runs_by_table missing_header false 1 two_sources object_first).1 object_allowed

-- what holds of the five nodes holds below the count
pub each_node : (P : ℕ → Type 0) → P 0 → P 1 → P 2 → P 3 → P 4 → (n : ℕ) → n < node_count missing_header → P n
unfolding node_count
each_node P p q r s t zero inside = p
each_node P p q r s t (suc zero) inside = q
each_node P p q r s t (suc (suc zero)) inside = r
each_node P p q r s t (suc (suc (suc zero))) inside = s
each_node P p q r s t (suc (suc (suc (suc zero)))) inside = t
each_node P p q r s t (suc (suc (suc (suc (suc n))))) inside = absurd (omega arith)

pub both_orders : BothOrders
unfolding name_of is_listed
both_orders = record {
  agrees = each_node _ refl refl refl refl refl;
  header_run = header_run;
  header_complete = each_node _ refl refl refl refl refl;
  header_leaves = refl;
  object_run = object_run;
  object_complete = each_node _ refl refl refl refl refl;
  object_leaves = refl;
  recipes_agree = λ n starts_a starts_b. each_node
      (λ k. is_started (phase (reverse header_first) k) ≡ true → is_started (phase (reverse object_first) k) ≡ true → Agree (reverse (history (reverse header_first) k)) (reverse (history (reverse object_first) k)))
      (λ left right. absurd (false≢true left))
      (λ left right. ((refl, refl), λ same. tt))
      (λ left right. absurd (false≢true left))
      (λ left right. (refl, λ same. cc))
      (λ left right. absurd (false≢true left))
      n (in_jobs missing_header false 1 two_sources (reverse header_first) n header_run (started_begun _ starts_a)) starts_a starts_b;
}

object_prerequisite : (p : ℕ) → IsPrerequisite missing_header p 3 → p ≡ 2
unfolding prerequisites_of
object_prerequisite p step = sym (only_in 2 p step)

header_prerequisite : (p : ℕ) → IsPrerequisite missing_header p 1 → p ≡ 0
unfolding prerequisites_of
header_prerequisite p step = sym (only_in 0 p step)

none_before : (n : ℕ) → prerequisites_of missing_header n ≡ [] → (a : ℕ) → Before missing_header a n → ⊥
none_before n none a (edge step) = nothing_in a (subst (λ ps. Contains ps a) none step)
none_before n none a (further {b = b} chain step) = nothing_in b (subst (λ ps. Contains ps b) none step)

not_before : (a : ℕ) → a ≡ 1 → Before missing_header a 3 → ⊥
unfolding prerequisites_of
not_before a is (edge step) = let two = object_prerequisite a step in omega arith
not_before a is (further {b = b} chain step) = none_before 2 refl a (subst (Before missing_header a) (object_prerequisite b step) chain)

not_after : (a : ℕ) → a ≡ 3 → Before missing_header a 1 → ⊥
unfolding prerequisites_of
not_after a is (edge step) = let nought = header_prerequisite a step in omega arith
not_after a is (further {b = b} chain step) = none_before 0 refl a (subst (Before missing_header a) (header_prerequisite b step) chain)

pub missing_header_races : MissingHeaderRaces
unfolding prerequisites_of has_recipe is_phony is_listed reads_of writes_of may_read may_write
missing_header_races = record {
  clash = (gen_h, record { different = λ same. omega arith; first = refl; second = refl; written = refl });
  not_before = not_before 1 refl;
  not_after = not_after 3 refl;
  not_determinate = λ determinate.
      let same = determinate two_sources false 1 1 (reverse header_first) (reverse object_first) both_orders.agrees header_run object_run
      both_orders.header_complete both_orders.object_complete both_orders.recipes_agree in
      let ends = same.files a_o in
      cc;
}

-- whatever `a.o` reads, and where it needs smaller nodes alone, the jobs are valid
header_smaller : (ps : List ℕ) (reads : List Path) → list_all (λ k. nat_lt k 3) ps ≡ true → (n p : ℕ) → IsPrerequisite (header_jobs ps reads) p n → p < n
unfolding prerequisites_of
header_smaller ps reads low zero p step = absurd (nothing_in p step)
header_smaller ps reads low (suc zero) p step = ltb-true p 1 (each_passes (λ k. nat_lt k 1) (0 ∷ []) refl p step)
header_smaller ps reads low (suc (suc zero)) p step = absurd (nothing_in p step)
header_smaller ps reads low (suc (suc (suc zero))) p step = ltb-true p 3 (each_passes (λ k. nat_lt k 3) ps low p step)
header_smaller ps reads low (suc (suc (suc (suc zero)))) p step = ltb-true p 4 (each_passes (λ k. nat_lt k 4) (1 ∷ 3 ∷ []) refl p step)
header_smaller ps reads low (suc (suc (suc (suc (suc n))))) p step = absurd (nothing_in p step)

header_own : (ps : List ℕ) (reads : List Path) (n m : ℕ) → m < node_count (header_jobs ps reads) → may_write (header_jobs ps reads) n (name_of (header_jobs ps reads) m) ≡ true → n ≡ m
unfolding node_count name_of prerequisites_of has_recipe is_phony is_listed writes_of may_write
header_own ps reads zero m inside writes = absurd (false≢true writes)
header_own ps reads (suc zero) m inside writes = each_node (λ k. may_write (header_jobs ps reads) 1 (name_of (header_jobs ps reads) k) ≡ true → 1 ≡ k)
    (λ w. absurd (false≢true w)) (λ w. refl) (λ w. absurd (false≢true w)) (λ w. absurd (false≢true w)) (λ w. absurd (false≢true w)) m inside writes
header_own ps reads (suc (suc zero)) m inside writes = absurd (false≢true writes)
header_own ps reads (suc (suc (suc zero))) m inside writes = each_node (λ k. may_write (header_jobs ps reads) 3 (name_of (header_jobs ps reads) k) ≡ true → 3 ≡ k)
    (λ w. absurd (false≢true w)) (λ w. absurd (false≢true w)) (λ w. absurd (false≢true w)) (λ w. refl) (λ w. absurd (false≢true w)) m inside writes
header_own ps reads (suc (suc (suc (suc zero)))) m inside writes = absurd (false≢true writes)
header_own ps reads (suc (suc (suc (suc (suc n))))) m inside writes = absurd (false≢true writes)

pub header_valid : (ps : List ℕ) (reads : List Path) → list_all (λ k. nat_lt k 3) ps ≡ true → IsValid (header_jobs ps reads)
header_valid ps reads low = record { smaller = header_smaller ps reads low; own = header_own ps reads }

pub header_live : (ps : List ℕ) (reads : List Path) (n : ℕ) → is_live (header_jobs ps reads) n ≡ true → (n ≡ 1) ⊎ (n ≡ 3)
unfolding prerequisites_of has_recipe is_phony is_listed
header_live ps reads zero live = absurd (false≢true live)
header_live ps reads (suc zero) live = inl refl
header_live ps reads (suc (suc zero)) live = absurd (false≢true live)
header_live ps reads (suc (suc (suc zero))) live = inr refl
header_live ps reads (suc (suc (suc (suc zero)))) live = absurd (false≢true live)
header_live ps reads (suc (suc (suc (suc (suc n))))) live = absurd (false≢true live)

-- so the two recipes alone may clash
pub header_race_free : (ps : List ℕ) (reads : List Path)
    → (Clash (header_jobs ps reads) 1 3 → Before (header_jobs ps reads) 1 3) → (Clash (header_jobs ps reads) 3 1 → Before (header_jobs ps reads) 1 3)
    → IsRaceFree (header_jobs ps reads)
header_race_free ps reads there back a b clash =
    let live = clash_live clash.1 in
    elim (header_live ps reads a live.first_live) [
      | inl a_is ↦ elim (header_live ps reads b live.second_live) [
        | inl b_is ↦ absurd (clash.1.different (a_is ∙ sym b_is))
        | inr b_is ↦ inl (subst₂ (Before (header_jobs ps reads)) (sym a_is) (sym b_is) (there (subst₂ (Clash (header_jobs ps reads)) a_is b_is clash)))
      ]
      | inr a_is ↦ elim (header_live ps reads b live.second_live) [
        | inl b_is ↦ inr (subst₂ (Before (header_jobs ps reads)) (sym b_is) (sym a_is) (back (subst₂ (Clash (header_jobs ps reads)) a_is b_is clash)))
        | inr b_is ↦ absurd (clash.1.different (a_is ∙ sym b_is))
      ]
    ]

named_before : Before header_named 1 3
unfolding prerequisites_of
named_before = edge (1, omega arith, refl)

pub header_named_is_safe : HeaderNamedIsSafe
header_named_is_safe =
    let valid = header_valid (2 ∷ 1 ∷ []) (file a_c ∷ file gen_h ∷ []) refl in
    let race_free = header_race_free (2 ∷ 1 ∷ []) (file a_c ∷ file gen_h ∷ []) (λ clash. named_before) (λ clash. named_before) in
    record { valid = valid; race_free = race_free; determinate = headline header_named valid race_free }

tie_allowed : AllowedInTurn two_files true 1 (start_from same_age) (by 0 Skip ∷ by 1 Start ∷ [])
unfolding node_count name_of prerequisites_of has_recipe is_phony is_listed
tie_allowed = (
  (record { in_jobs = omega arith; not_passed = refl; not_running = refl; prerequisites = each_passes _ [] refl }, inl refl),
  ((record { in_jobs = omega arith; not_passed = refl; not_running = refl; prerequisites = each_passes _ (0 ∷ []) refl }, refl, refl, omega arith), tt),
)

skip_allowed : AllowedInTurn two_files false 1 (start_from same_age) (by 0 Skip ∷ by 1 Skip ∷ [])
unfolding node_count name_of prerequisites_of has_recipe is_phony is_listed
skip_allowed = (
  (record { in_jobs = omega arith; not_passed = refl; not_running = refl; prerequisites = each_passes _ [] refl }, inl refl),
  ((record { in_jobs = omega arith; not_passed = refl; not_running = refl; prerequisites = each_passes _ (0 ∷ []) refl }, inr refl), tt),
)

pub equal_times : EqualTimes
unfolding node_count name_of prerequisites_of has_recipe is_phony is_listed
equal_times = record {
  with_tie = (runs_by_table two_files true 1 same_age (by 0 Skip ∷ by 1 Start ∷ [])).1 tie_allowed;
  without_tie = λ run. false≢true run.1.stale;
  skipped = (runs_by_table two_files false 1 same_age (by 0 Skip ∷ by 1 Skip ∷ [])).1 skip_allowed;
}

pub interleaved_in_order : InterleavedInOrder
interleaved_in_order c_file object other program = refl
