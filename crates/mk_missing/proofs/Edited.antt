-- The worked case of an edit after which a build leaves the footprints, computed.
use Rattle.std.proofs.Common.{ℕ, zero, suc, ◌≡◌, ◌==◌, eqb-true, inl, true, false, List, [], ◌∷◌, None, is_some, refl, sym, ap, ◌∙◌, subst, reverse, arith}
use Rattle.std.proofs.lemmas.Bool.{false≢true, false_from_ne_true, or_left}
use Rattle.mk_name.specs.Names.{Name, same_name}
use Rattle.mk_jobs.specs.Jobs.{has_recipe, is_listed, is_phony, may_read, may_write, name_of, node_count, prerequisites_of, reads_of, writes_of}
use Rattle.mk_sched.specs.Stores.{bytes_of}
use Rattle.mk_sched.specs.Events.{Event, history, is_started, phase, store_after}
use Rattle.mk_sched.specs.Programs.{Follows}
use Rattle.mk_sched.specs.Schedules.{IsSchedule, TimesRise, stays}
use Rattle.mk_sched.specs.Serial.{IsLast}
use Rattle.mk_sched.proofs.Basics.{same_name-true, split}
use Rattle.mk_sched.proofs.Computed.{each_passes, later_than, put_last}
use Rattle.mk_missing.specs.Doings.{IsAfresh, found_by}
use Rattle.mk_missing.specs.Incremental.{IsBuild, IsEdit, clean, edited, same, source}
use Rattle.mk_missing.specs.EditedSource.{EditsLeave, edited_source, header, includes, including_build, plain_build}
use Rattle.mk_missing.specs.Unpacking.{archive, packed, target, unpacking}
use Rattle.mk_missing.proofs.Unpacked.{archive_is_source, declared, each_node, not_archive, packed_clean, packed_last, race_free, target_below, valid}

-- a greater number is neither node
far : (n : ℕ) → ((0 == suc (suc n)) ≡ false) × ((1 == suc (suc n)) ≡ false)
far n = (
  false_from_ne_true _ (λ same. let is = eqb-true 0 (suc (suc n)) same in absurd (omega (arith, is))),
  false_from_ne_true _ (λ same. let is = eqb-true 1 (suc (suc n)) same in absurd (omega (arith, is))),
)

plain_others : (n : ℕ) → is_started (phase plain_build (suc (suc n))) ≡ false
plain_others n = rw ((far n).0, (far n).1) refl

including_others : (n : ℕ) → is_started (phase including_build (suc (suc n))) ≡ false
including_others n = rw ((far n).0, (far n).1) refl

-- the second node alone starts
starter : (past : List Event) (P : ℕ → Type 0) → ((n : ℕ) → is_started (phase past (suc (suc n))) ≡ false) → is_started (phase past 0) ≡ false → P 1 → (n : ℕ) → is_started (phase past n) ≡ true → P n
starter past P others first one zero started = absurd (false≢true (sym first ∙ started))
starter past P others first one (suc zero) started = one
starter past P others first one (suc (suc n)) started = absurd (false≢true (sym (others n) ∙ started))

plain_schedule : IsSchedule unpacking false 1 (packed 0 1) plain_build
unfolding node_count prerequisites_of has_recipe is_phony is_listed name_of
plain_schedule = (
  (
    (
      (
        (
          tt,
          record { ready = record { in_jobs = omega arith; waits = refl; prerequisites = each_passes _ ([]) refl }; fresh = refl },
        ),
        record { ready = record { in_jobs = omega arith; waits = refl; prerequisites = each_passes _ (0 ∷ []) refl }; stale = refl; room = omega arith },
      ),
      (refl, refl),
    ),
    (refl, λ x file opens is. later_than 1 (packed 0 1) (packed_last 0 1) x file is),
  ),
  refl,
)

plain_rise : TimesRise (packed 0 1) plain_build
plain_rise = (((((tt, tt), tt), tt), later_than 1 (packed 0 1) (packed_last 0 1)), tt)

plain_last : IsLast 2 (store_after (packed 0 1) plain_build)
plain_last = put_last target [] 2 1 (packed 0 1) (packed_last 0 1) (omega arith)

plain_program : Follows includes (reverse (history plain_build 1))
plain_program zero = refl
plain_program (suc zero) = (refl, refl)
plain_program (suc (suc k)) = tt

plain : IsBuild unpacking (λ n. includes) (packed 0 1) plain_build
unfolding node_count
plain = record {
  tie = false;
  limit = 1;
  schedule = plain_schedule;
  rise = plain_rise;
  complete = each_node _ refl refl;
  follows = starter plain_build (λ n. Follows includes (reverse (history plain_build n))) plain_others refl plain_program;
  afresh = starter plain_build (λ n. IsAfresh unpacking n (found_by (packed 0 1) plain_build n) (history plain_build n)) plain_others refl
      (record { first = (tt, λ writes. absurd (false≢true (sym (archive_is_source 1) ∙ writes))); rest = λ x writes some. absurd (false≢true (rw (not_archive x writes) at some)) });
}

plain_stays : stays unpacking plain_build ≡ true
unfolding node_count prerequisites_of has_recipe is_phony is_listed reads_of writes_of may_read may_write
plain_stays = refl

edit : IsEdit unpacking (λ x. false) (store_after (packed 0 1) plain_build) edited_source
unfolding node_count name_of is_listed
edit = record {
  each = λ x. split (same_name archive x)
      (λ is. source (λ n. subst (λ y. may_write unpacking n y ≡ false) (same_name-true archive x is) (archive_is_source n)) refl
      (λ file new y old there.
      let low = plain_last y old there in
      let at : file.time ≡ 3 = cc (rw is at new) in
      omega arith))
      (λ other. same (rw other refl));
  sources = each_node _ (λ other. refl) (λ other. absurd (false≢true (sym other ∙ target_below)));
}

edited_last : IsLast 3 edited_source
edited_last = put_last archive (1 ∷ []) 3 2 (store_after (packed 0 1) plain_build) plain_last (omega arith)

including_schedule : IsSchedule unpacking false 1 edited_source including_build
unfolding node_count prerequisites_of has_recipe is_phony is_listed name_of
including_schedule = (
  (
    (
      (
        (
          (
            tt,
            record { ready = record { in_jobs = omega arith; waits = refl; prerequisites = each_passes _ ([]) refl }; fresh = refl },
          ),
          record { ready = record { in_jobs = omega arith; waits = refl; prerequisites = each_passes _ (0 ∷ []) refl }; stale = refl; room = omega arith },
        ),
        (refl, refl),
      ),
      (refl, refl),
    ),
    (refl, λ x file opens is. later_than 3 edited_source edited_last x file is),
  ),
  refl,
)

including_rise : TimesRise edited_source including_build
including_rise = ((((((tt, tt), tt), tt), tt), later_than 3 edited_source edited_last), tt)

including_program : Follows includes (reverse (history including_build 1))
including_program zero = refl
including_program (suc zero) = refl
including_program (suc (suc zero)) = (refl, refl)
including_program (suc (suc (suc k))) = tt

-- beside the source the target alone is there
edited_at : (x : Name) → same_name archive x ≡ false → same_name target x ≡ false → bytes_of (edited_source x) ≡ None
edited_at x one two = rw (one, two) refl

header_is_source : may_write unpacking 1 header ≡ false
unfolding prerequisites_of has_recipe is_phony is_listed writes_of may_write
header_is_source = refl

including : IsBuild unpacking (λ n. includes) edited_source including_build
unfolding node_count
including = record {
  tie = false;
  limit = 1;
  schedule = including_schedule;
  rise = including_rise;
  complete = each_node _ refl refl;
  follows = starter including_build (λ n. Follows includes (reverse (history including_build n))) including_others refl including_program;
  afresh = starter including_build (λ n. IsAfresh unpacking n (found_by edited_source including_build n) (history including_build n)) including_others refl (record {
    first = ((tt, λ writes. absurd (false≢true (sym (archive_is_source 1) ∙ writes))), λ writes. absurd (false≢true (sym header_is_source ∙ writes)));
    rest = λ x writes some. split (same_name target x)
        (λ is. or_left (same_name target x) false is)
        (λ other. absurd (false≢true (sym (ap is_some (edited_at x (not_archive x writes) other)) ∙ some)));
  });
}

leaves : stays unpacking including_build ≡ false
unfolding node_count prerequisites_of has_recipe is_phony is_listed reads_of writes_of may_read may_write
leaves = refl

pub edits_leave : EditsLeave
edits_leave = record {
  valid = valid;
  race_free = race_free;
  declared = declared;
  clean = packed_clean 0 1;
  seen = plain;
  seen_stays = plain_stays;
  kept = edited (clean (packed_clean 0 1)) plain (inl plain_stays) edit;
  build = including;
  leaves = leaves;
}
