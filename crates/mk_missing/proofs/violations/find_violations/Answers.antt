use Rattle.std.proofs.Common.{ℕ, ◌≡◌, ◌∙◌, Bool, false, not, List, ap, filter, get_or, length, map, subst}
use Rattle.mk_missing.specs.Users.{files_of, is_nowhere}
use Rattle.mk_missing.specs.Violations.{ArePlacesWhere, IsListedOutput, IsWrittenTree}
use Rattle.mk_missing.specs.declared.kind.Kind.TheVariants.{Unwatched, Late, Shared}
use Rattle.mk_missing.specs.declared.users.Users.{Users}
use Rattle.mk_missing.proofs.Exact.{AreResults, checked_of, declared_is, late_by_of, late_of, violations_are}
use Rattle.mk_missing.proofs.violations.find_violations.Goals as goal

pub late_writers-requires-clause-late : goal.late_writers-requires-clause-late
late_writers-requires-clause-late c =
    let jobs = c.args.jobs.now in
    let users = c.in_ok-users.users.items in
    let pairs = c.in_ok-late.late.items in
    let before : c.wrong_pairs.new.checker ≡ jobs = c.wrong_pairs.ensures.keeps ∙ c.in_ok-checker.ensures.is in
    let now : c.wrong_pairs-2.new.checker ≡ jobs = c.wrong_pairs-2.ensures.keeps ∙ before in
    late_of jobs c.wrong_pairs-2.new.checker users c.deref-5.result.now pairs c.deref-6.result.now now c.deref-5.ensures.value c.deref-6.ensures.value
    (checked_of jobs c.wrong_pairs.new.checker users c.deref-4.result.now Late pairs before c.deref-4.ensures.value c.in_ok-late.ensures.pairs)

-- all that was found
results : (c : goal.After-drop-checker-inside-4) → AreResults c.args.jobs.now c.args.listing.now c.in_ok-users.users.items (record {
  files = c.in_ok-files_of.field-0;
  last = c.in_ok-last_writers.field-0;
  missing = c.drop_unlisted-unlisted.new.pairs;
  unlisted = c.drop_unlisted-unlisted.result;
  late = c.in_ok-late.late;
  late_by = c.in_ok-late_by.late_by;
  shared = c.in_ok-shared.shared;
  present = c.in_ok-present_nodes.field-0;
  outputs = c.in_ok-outputs.outputs;
  trees = c.in_ok-trees.trees;
})
results c =
    let jobs = c.args.jobs.now in
    let users = c.in_ok-users.users.items in
    let unwatched = c.in_ok-missing.missing.items in
    let first : c.in_ok-checker.checker ≡ jobs = c.in_ok-checker.ensures.is in
    let second : c.wrong_pairs.new.checker ≡ jobs = c.wrong_pairs.ensures.keeps ∙ first in
    let third : c.wrong_pairs-2.new.checker ≡ jobs = c.wrong_pairs-2.ensures.keeps ∙ second in
    let fourth : c.late_writers.new.checker ≡ jobs = c.late_writers.ensures.keeps ∙ third in
    let marks : c.deref-3.result.now ≡ map (is_nowhere c.args.listing.now) users =
    c.deref-3.ensures.value ∙ c.in_ok-unlisted_marks.ensures ∙ ap (map (is_nowhere c.args.listing.now)) c.deref-2.ensures.value in
    record {
      same = c.in_ok-files_of.ensures;
      rise = c.in_ok-users.ensures.rise;
      files = c.in_ok-users.ensures.files;
      used = c.in_ok-users.ensures.users;
      last = c.in_ok-last_writers.ensures ∙ ap (map (λ (user : Users). user.last)) c.deref-10.ensures.value;
      unwatched = unwatched;
      all_unwatched = checked_of jobs c.in_ok-checker.checker users c.deref.result.now Unwatched unwatched first c.deref.ensures.value c.in_ok-missing.ensures.pairs;
      missing = c.drop_unlisted-unlisted.ensures.kept ∙ ap (λ (ms : List Bool). filter (λ (pair : ℕ × ℕ). not (get_or ms pair.0 false)) unwatched) marks;
      unlisted = c.drop_unlisted-unlisted.ensures.dropped ∙ ap (λ (ms : List Bool). length (filter (λ (pair : ℕ × ℕ). get_or ms pair.0 false) unwatched)) marks;
      late = checked_of jobs c.wrong_pairs.new.checker users c.deref-4.result.now Late c.in_ok-late.late.items second c.deref-4.ensures.value c.in_ok-late.ensures.pairs;
      late_by = late_by_of jobs c.wrong_pairs-2.new.checker users c.deref-5.result.now c.in_ok-late.late.items c.deref-6.result.now c.in_ok-late_by.late_by.items third c.deref-5.ensures.value
          c.deref-6.ensures.value c.in_ok-late_by.ensures.writers;
      shared = checked_of jobs c.late_writers.new.checker users c.deref-7.result.now Shared c.in_ok-shared.shared.items fourth c.deref-7.ensures.value c.in_ok-shared.ensures.pairs;
      present_rise = c.in_ok-present_nodes.ensures.rise;
      present = c.in_ok-present_nodes.ensures.exact;
      outputs = subst (λ (us : List Users). ArePlacesWhere (files_of us) (IsListedOutput jobs c.args.listing.now) c.in_ok-outputs.outputs.items) c.deref-8.ensures.value c.in_ok-outputs.ensures;
      trees = subst (λ (us : List Users). ArePlacesWhere (files_of us) (IsWrittenTree jobs) c.in_ok-trees.trees.items) c.deref-9.ensures.value c.in_ok-trees.ensures;
    }

pub returns-clause-all : goal.returns-clause-all
returns-clause-all c = violations_are _ _ _ _ c.in_ok-checker.ensures.shape (results c)

pub returns-clause-declared : goal.returns-clause-declared
returns-clause-declared c = declared_is _ _ _ _ c.in_ok-checker.ensures.shape (results c)
