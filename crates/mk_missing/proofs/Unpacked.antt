-- The worked case of an archive that is unpacked, computed.
use Rattle.std.proofs.Common.{ℕ, zero, suc, ◌≡◌, ◌<◌, inl, inr, ◌||◌, Bool, true, false, [], ◌∷◌, Some, None, is_some, refl, sym, ap, ◌∙◌, subst, reverse, ltb-true, nat_lt, Contains, if◌then◌else◌, arith}
use Rattle.std.proofs.lemmas.Bool.{false≢true, or_cases, or_left, or_right}
use Rattle.mk_name.specs.Names.{Name, same_name}
use Rattle.mk_jobs.specs.Jobs.{IsValid, IsRaceFree, IsPrerequisite, is_live, is_listed, is_phony, has_recipe, may_read, may_write, name_of, node_count, prerequisites_of, reads_of, writes_of}
use Rattle.mk_jobs.proofs.JobsLemmas.{clash_live, reader_live, writer_live}
use Rattle.mk_sched.specs.Stores.{Store, bytes_of, is_stale}
use Rattle.mk_sched.specs.Events.{history, is_started, phase, store_after}
use Rattle.mk_sched.specs.Programs.{Follows}
use Rattle.mk_sched.specs.Runs.{IsComplete, IsRun}
use Rattle.mk_sched.specs.Schedules.{IsSchedule, TimesRise, stays}
use Rattle.mk_sched.specs.Serial.{IsLast}
use Rattle.mk_sched.specs.Table.{AllowedInTurn, start_from}
use Rattle.mk_sched.proofs.Basics.{same_name-true, split, started_begun}
use Rattle.mk_sched.proofs.ByTable.{runs_by_table}
use Rattle.mk_sched.proofs.Computed.{each_passes, later_than, put_last}
use Rattle.mk_sched.proofs.Moving.{in_jobs}
use Rattle.mk_sched.proofs.Staying.{run_is_schedule}
use Rattle.mk_missing.specs.Watching.{IsDeclared, IsInput, named}
use Rattle.mk_missing.specs.Doings.{IsAfresh, found_by, has_write}
use Rattle.mk_missing.specs.Incremental.{IsBuild, IsClean, IsEdit, IsKept, IsSource, SameSources, clean, edited, same, source}
use Rattle.mk_missing.proofs.FromClean.{as_from_clean}
use Rattle.mk_missing.specs.Unpacking.{UnpacksAfresh, archive, first_build, member_a, member_b, member_of, packed, repacked, second_build, target, unpacked, unpacking, unpacks}

nothing_in : (x : ℕ) → Contains [] x → ⊥
nothing_in x inside = omega (arith, inside.1)

-- there are two nodes, and the second one is live
pub each_node : (P : ℕ → Type 0) → P 0 → P 1 → (n : ℕ) → n < node_count unpacking → P n
unfolding node_count
each_node P p q zero inside = p
each_node P p q (suc zero) inside = q
each_node P p q (suc (suc n)) inside = absurd (omega arith)

live_is : (n : ℕ) → is_live unpacking n ≡ true → n ≡ 1
unfolding prerequisites_of has_recipe is_phony is_listed
live_is zero live = absurd (false≢true live)
live_is (suc zero) live = refl
live_is (suc (suc n)) live = absurd (false≢true live)

reader_is : (n : ℕ) (x : Name) → may_read unpacking n x ≡ true → n ≡ 1
reader_is n x reads = live_is n (reader_live unpacking n x reads)

writer_is : (n : ℕ) (x : Name) → may_write unpacking n x ≡ true → n ≡ 1
writer_is n x writes = live_is n (writer_live unpacking n x writes)

smaller : (n p : ℕ) → IsPrerequisite unpacking p n → p < n
unfolding prerequisites_of
smaller zero p step = absurd (nothing_in p step)
smaller (suc zero) p step = ltb-true p 1 (each_passes (λ k. nat_lt k 1) (0 ∷ []) refl p step)
smaller (suc (suc n)) p step = absurd (nothing_in p step)

-- nobody may write the archive, which is all that is read
pub archive_is_source : IsSource unpacking archive
unfolding node_count prerequisites_of has_recipe is_phony is_listed writes_of may_write
archive_is_source zero = refl
archive_is_source (suc zero) = refl
archive_is_source (suc (suc n)) = refl

own_names : (m : ℕ) → m < node_count unpacking → may_write unpacking 1 (name_of unpacking m) ≡ true → 1 ≡ m
unfolding name_of
own_names = each_node (λ m. may_write unpacking 1 (name_of unpacking m) ≡ true → 1 ≡ m) (λ writes. absurd (false≢true (sym (archive_is_source 1) ∙ writes))) (λ writes. refl)

own : (n m : ℕ) → m < node_count unpacking → may_write unpacking n (name_of unpacking m) ≡ true → n ≡ m
own n m inside writes =
    let is = writer_is n (name_of unpacking m) writes in
    is ∙ own_names m inside (subst (λ k. may_write unpacking k (name_of unpacking m) ≡ true) is writes)

pub valid : IsValid unpacking
valid = record { smaller = smaller; own = own }

pub race_free : IsRaceFree unpacking
race_free a b clash =
    let live = clash_live clash.1 in
    absurd (clash.1.different (live_is a live.first_live ∙ sym (live_is b live.second_live)))

read_is : (x : Name) → may_read unpacking 1 x ≡ true → archive ≡ x
unfolding prerequisites_of has_recipe is_phony is_listed reads_of may_read
read_is x reads = elim (or_cases (same_name archive x) false reads) [
  | inl is ↦ same_name-true archive x is
  | inr never ↦ absurd (false≢true never)
]

input_is : (n : ℕ) (x : Name) → IsInput unpacking n x → archive ≡ x
input_is n x input = read_is x (subst (λ k. may_read unpacking k x ≡ true) (reader_is n x input.reads) input.reads)

pub declared : IsDeclared unpacking (λ x. false)
unfolding prerequisites_of name_of has_recipe is_phony is_listed
declared = record {
  watched = λ n x input. inr (named (0, subst (IsPrerequisite unpacking 0) (sym (reader_is n x input.reads)) (0, omega arith, refl), input_is n x input));
  earlier = λ n m x input writes. absurd (false≢true (sym (archive_is_source m) ∙ subst (λ y. may_write unpacking m y ≡ true) (sym (input_is n x input)) writes));
  last = λ n w x writes last. inl (writer_is n x writes ∙ sym (writer_is w x last.writes));
  made = λ n x writes. refl;
  absent = λ n live plain. subst (λ k. is_listed unpacking k ≡ false) (sym (live_is n live)) refl;
}

-- a tree with the archive alone is clean
pub packed_clean : (byte time : ℕ) → IsClean unpacking (packed byte time)
unfolding node_count name_of is_listed prerequisites_of has_recipe is_phony writes_of may_write
packed_clean byte time = record {
  made = λ n x writes. split (same_name archive x)
      (λ is. absurd (false≢true (sym (archive_is_source n) ∙ subst (λ y. may_write unpacking n y ≡ true) (sym (same_name-true archive x is)) writes)))
      (λ other. rw other refl);
  sources = each_node _ (λ other. refl) (λ other. absurd (false≢true (sym other)));
}

pub packed_last : (byte time : ℕ) → IsLast time (packed byte time)
packed_last byte time x file is = split (same_name archive x)
    (λ here. let at : file.time ≡ time = cc (rw here at is) in omega arith)
    (λ other. cc (rw other at is))

erased_last : (path : Name) (last : ℕ) (store : Store) → IsLast last store → IsLast last (λ x. if same_name path x then None else store x)
erased_last path last store is_last x file is = split (same_name path x)
    (λ here. cc (rw here at is))
    (λ other. is_last x file (rw other at is))

-- what a build leaves has no later time
built_last : (opening : Store) (byte : ℕ) (member : Name) (last : ℕ) → IsLast last opening → IsLast (suc (suc last)) (store_after opening (reverse (unpacked byte member (suc last))))
built_last opening byte member last is_last =
    put_last target [] (suc (suc last)) (suc last) _
    (put_last member (byte ∷ []) (suc last) last _ (erased_last member_b last _ (erased_last member_a last opening is_last)) (omega arith)) (omega arith)

module _ (opening : Store) (byte : ℕ) (last : ℕ) (is_last : IsLast last opening) (old : is_stale unpacking false opening 1 ≡ true) (has : bytes_of (opening archive) ≡ Some (byte ∷ []))
    (member : Name) (is : member_of (Some (byte ∷ [])) ≡ member) (below : may_write unpacking 1 member ≡ true) where
  allowed : AllowedInTurn unpacking false 1 (start_from opening) (unpacked byte member (suc last))
  unfolding node_count prerequisites_of has_recipe is_phony is_listed reads_of writes_of may_read may_write name_of
  allowed = (
    (record { in_jobs = omega arith; not_passed = refl; not_running = refl; prerequisites = each_passes _ [] refl }, inl refl),
    (
      (record { in_jobs = omega arith; not_passed = refl; not_running = refl; prerequisites = each_passes _ (0 ∷ []) refl }, refl, old, omega arith),
      (
        (refl, refl),
        (
          (refl, refl),
          (
            (refl, refl, sym has),
            (
              (refl, below, later_than last _ (erased_last member_b last _ (erased_last member_a last opening is_last))),
              (
                (refl, refl, later_than (suc last) _ (put_last member (byte ∷ []) (suc last) last _ (erased_last member_b last _ (erased_last member_a last opening is_last)) (omega arith))),
                (refl, tt),
              ),
            ),
          ),
        ),
      ),
    ),
  )

  run : IsRun unpacking false 1 opening (reverse (unpacked byte member (suc last)))
  run = (runs_by_table unpacking false 1 opening (unpacked byte member (suc last))).1 allowed

  complete : IsComplete unpacking (reverse (unpacked byte member (suc last)))
  complete = each_node _ refl refl

  program : Follows unpacks (reverse (history (reverse (unpacked byte member (suc last))) 1))
  program zero = (refl, refl)
  program (suc zero) = (refl, refl)
  program (suc (suc zero)) = refl
  program (suc (suc (suc zero))) = (is, refl)
  program (suc (suc (suc (suc zero)))) = (refl, refl)
  program (suc (suc (suc (suc (suc k))))) = tt

  starter : (P : ℕ → Type 0) → P 1 → (n : ℕ) → is_started (phase (reverse (unpacked byte member (suc last))) n) ≡ true → P n
  starter P one n started = each_node (λ k. is_started (phase (reverse (unpacked byte member (suc last))) k) ≡ true → P k)
      (λ no. absurd (false≢true no)) (λ yes. one) n (in_jobs unpacking false 1 opening (reverse (unpacked byte member (suc last))) n run (started_begun _ started)) started

  parts : IsSchedule unpacking false 1 opening (reverse (unpacked byte member (suc last))) × (stays unpacking (reverse (unpacked byte member (suc last))) ≡ true) × TimesRise opening (reverse (unpacked byte member (suc last)))
  parts = (run_is_schedule unpacking false 1 opening (reverse (unpacked byte member (suc last)))).0 run

  -- a build whose recipe removes or writes all that it may write and that was there
  build : ((x : Name) → may_write unpacking 1 x ≡ true → is_some (bytes_of (opening x)) ≡ true → has_write x (history (reverse (unpacked byte member (suc last))) 1) ≡ true)
      → IsBuild unpacking (λ n. unpacks) opening (reverse (unpacked byte member (suc last)))
  build covers = record {
    tie = false;
    limit = 1;
    schedule = parts.0;
    rise = parts.2;
    complete = complete;
    follows = starter (λ n. Follows unpacks (reverse (history (reverse (unpacked byte member (suc last))) n))) program;
    afresh = starter (λ n. IsAfresh unpacking n (found_by opening (reverse (unpacked byte member (suc last))) n) (history (reverse (unpacked byte member (suc last))) n))
        (record { first = (tt, λ writes. absurd (false≢true (sym (archive_is_source 1) ∙ writes))); rest = covers });
  }

-- what a recipe may write is no archive
pub not_archive : (x : Name) → may_write unpacking 1 x ≡ true → same_name archive x ≡ false
not_archive x writes = split (same_name archive x)
    (λ is. absurd (false≢true (sym (archive_is_source 1) ∙ subst (λ y. may_write unpacking 1 y ≡ true) (sym (same_name-true archive x is)) writes)))
    (λ other. other)

member_a_below : may_write unpacking 1 member_a ≡ true
unfolding prerequisites_of has_recipe is_phony is_listed writes_of may_write
member_a_below = refl

member_b_below : may_write unpacking 1 member_b ≡ true
unfolding prerequisites_of has_recipe is_phony is_listed writes_of may_write
member_b_below = refl

pub target_below : may_write unpacking 1 target ≡ true
unfolding prerequisites_of has_recipe is_phony is_listed writes_of may_write
target_below = refl

packed_stale : (byte time : ℕ) → is_stale unpacking false (packed byte time) 1 ≡ true
unfolding prerequisites_of name_of is_phony
packed_stale byte time = refl

from_packed : (byte time : ℕ) (member : Name) → member_of (Some (byte ∷ [])) ≡ member → may_write unpacking 1 member ≡ true → IsBuild unpacking (λ n. unpacks) (packed byte time) (reverse (unpacked byte member (suc time)))
from_packed byte time member is below = build (packed byte time) byte time (packed_last byte time) (packed_stale byte time) refl member is below
    (λ x writes some. absurd (false≢true (rw (not_archive x writes) at some)))

first : IsBuild unpacking (λ n. unpacks) (packed 0 1) first_build
first = from_packed 0 1 member_a refl member_a_below

first_stays : stays unpacking first_build ≡ true
first_stays = (parts (packed 0 1) 0 1 (packed_last 0 1) (packed_stale 0 1) refl member_a refl member_a_below).1

first_last : IsLast 3 (store_after (packed 0 1) first_build)
first_last = built_last (packed 0 1) 0 member_a 1 (packed_last 0 1)

repacked_last : IsLast 4 repacked
repacked_last = put_last archive (1 ∷ []) 4 3 (store_after (packed 0 1) first_build) first_last (omega arith)

-- below the folder and at the target there is what the first build wrote
repacked_at : (x : Name) → same_name archive x ≡ false → same_name target x ≡ false → same_name member_a x ≡ false → bytes_of (repacked x) ≡ None
repacked_at x one two three = split (same_name member_b x)
    (λ is. rw (one, two, three, is) refl)
    (λ other. rw (one, two, three, other) refl)

repacked_stale : is_stale unpacking false repacked 1 ≡ true
unfolding prerequisites_of name_of is_phony
repacked_stale = refl

fourth : (a b c d : Bool) → d ≡ true → (a || (b || (c || (d || false)))) ≡ true
fourth a b c d is = or_right a (b || (c || (d || false))) (or_right b (c || (d || false)) (or_right c (d || false) (or_left d false is)))

second : IsBuild unpacking (λ n. unpacks) repacked second_build
second = build repacked 1 4 repacked_last repacked_stale refl member_b refl member_b_below (λ x writes some. split (same_name target x)
    (λ is. or_left (same_name target x) (same_name member_b x || (same_name member_b x || (same_name member_a x || false))) is)
    (λ not_target. split (same_name member_a x)
    (λ is. fourth (same_name target x) (same_name member_b x) (same_name member_b x) (same_name member_a x) is)
    (λ not_member. absurd (false≢true (sym (ap is_some (repacked_at x (not_archive x writes) not_target not_member)) ∙ some)))))

edit : IsEdit unpacking (λ x. false) (store_after (packed 0 1) first_build) repacked
unfolding node_count name_of is_listed
edit = record {
  each = λ x. split (same_name archive x)
      (λ is. source (λ n. subst (λ y. may_write unpacking n y ≡ false) (same_name-true archive x is) (archive_is_source n)) refl
      (λ file new y old there.
      let low = first_last y old there in
      let at : file.time ≡ 4 = cc (rw is at new) in
      omega arith))
      (λ other. same (rw other refl));
  sources = each_node _ (λ other. refl) (λ other. absurd (false≢true (sym other ∙ target_below)));
}

same_sources : SameSources unpacking repacked (packed 1 4)
same_sources x free = split (same_name archive x)
    (λ is. rw is refl)
    (λ other.
    let no_target : same_name target x ≡ false = split (same_name target x) (λ is. absurd (false≢true (sym (free 1) ∙ subst (λ y. may_write unpacking 1 y ≡ true) (same_name-true target x is) target_below))) (λ differ. differ) in
    let no_member : same_name member_a x ≡ false = split (same_name member_a x) (λ is. absurd (false≢true (sym (free 1) ∙ subst (λ y. may_write unpacking 1 y ≡ true) (same_name-true member_a x is) member_a_below))) (λ differ. differ) in
    let absent : bytes_of (packed 1 4 x) ≡ None = rw other refl in
    repacked_at x other no_target no_member ∙ sym absent)

kept : IsKept unpacking (λ n. unpacks) (λ x. false) repacked
kept = edited (clean (packed_clean 0 1)) first (inl first_stays) edit

other_build : IsBuild unpacking (λ n. unpacks) (packed 1 4) second_build
other_build = from_packed 1 4 member_b refl member_b_below

other_stays : stays unpacking second_build ≡ true
other_stays = (parts (packed 1 4) 1 4 (packed_last 1 4) (packed_stale 1 4) refl member_b refl member_b_below).1

pub unpacks_afresh : UnpacksAfresh
unpacks_afresh = record {
  valid = valid;
  race_free = race_free;
  declared = declared;
  kept = kept;
  clean = packed_clean 1 4;
  sources = same_sources;
  first = first;
  first_stays = first_stays;
  second = second;
  other = other_build;
  other_stays = other_stays;
  alike = as_from_clean unpacking (λ n. unpacks) (λ x. false) repacked (packed 1 4) second_build second_build valid race_free declared kept (packed_clean 1 4) same_sources second other_build other_stays;
  was_there = refl;
  is_gone = refl;
}
