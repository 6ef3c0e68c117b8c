-- What is checked of all files is exact, and says whether the jobs are declared.
use Rattle.std.proofs.Common.{ℕ, ◌≡◌, ◌<◌, ◌↔◌, not, Bool, true, false, List, All, Contains, filter, get_or, length, map, refl, sym, ap, inl, inr, subst, arith}
use Rattle.std.specs.List.Sorted.{IsStrictlyIncreasing, IsStrictlySortedBy}
use Rattle.std.proofs.lemmas.List.{length-map}
use Rattle.mk_name.specs.Names.{Name}
use Rattle.mk_path.specs.declared.path.Path.{Path}
use Rattle.mk_path.specs.Paths.{path_cmp, path_at}
use Rattle.mk_jobs.specs.Jobs.{Jobs}
use Rattle.mk_jobs.specs.Shape.{IsWellFormed}
use Rattle.mk_missing.specs.Watching.{IsDeclared}
use Rattle.mk_missing.specs.declared.kind.Kind.{Kind}
use Rattle.mk_missing.specs.declared.kind.Kind.TheVariants.{Unwatched, Late, Shared}
use Rattle.mk_missing.specs.declared.users.Users.{Users}
use Rattle.mk_missing.specs.declared.violations.Violations.{Violations}
use Rattle.mk_missing.specs.Unlisted.{unlisted_names, is_unlisted}
use Rattle.mk_missing.specs.Files.{IsFile}
use Rattle.mk_missing.specs.Finding.{AreChecked, IsKnown, IsSeen, IsWatched}
use Rattle.mk_missing.specs.Kinds.{IsFine, IsWrong}
use Rattle.mk_missing.specs.Users.{AreUsers, files_of, is_nowhere}
use Rattle.mk_missing.specs.Violations.{AreLast, AreLateBy, ArePlacesWhere, AreSoMany, AreViolations, HasNone, IsLate, IsListedOutput, IsMissing, IsUnlistedInput, IsPresent, IsShared, IsUnwatched, IsWrittenTree, ListsNoOutputs, WriteNoTrees}
use Rattle.mk_missing.proofs.NotListed.{mark_at}
use Rattle.mk_missing.proofs.Filters.{kept_checked}
use Rattle.mk_missing.proofs.Declaring.{unlisted_apart, all_are, declared_if, late_apart, missing_apart, none_if, shared_apart}
use Rattle.mk_missing.proofs.Keeping.{no_pair}
use Rattle.mk_missing.proofs.Alone.{no_outputs_if, no_outputs_then, no_trees_if, no_trees_then}
use Rattle.mk_missing.proofs.Presents.{not_true}
use Rattle.mk_missing.proofs.Naming.{each_pair, last_are}

not_false : (b : Bool) → not b ≡ false → b ≡ true
not_false true is = refl
not_false false is = cc

-- the same of equal jobs and users
pub checked_of : (jobs old : Jobs) (users slice : List Users) (kind : Kind) (pairs : List (ℕ × ℕ)) → old ≡ jobs → slice ≡ users
    → AreChecked (files_of slice) (IsWrong old kind) (IsFine old kind) pairs → AreChecked (files_of users) (IsWrong jobs kind) (IsFine jobs kind) pairs
checked_of jobs old users slice kind pairs one two checked =
    subst (λ (us : List Users). AreChecked (files_of us) (IsWrong jobs kind) (IsFine jobs kind) pairs) two
    (subst (λ (j : Jobs). AreChecked (files_of slice) (IsWrong j kind) (IsFine j kind) pairs) one checked)

pub late_of : (jobs old : Jobs) (users slice : List Users) (pairs given : List (ℕ × ℕ)) → old ≡ jobs → slice ≡ users → given ≡ pairs
    → AreChecked (files_of users) (IsWrong jobs Late) (IsFine jobs Late) pairs
    → All (λ (pair : ℕ × ℕ). (pair.0 < length slice) × IsLate old pair.1 (path_at (files_of slice) pair.0)) given
late_of jobs old users slice pairs given one two three checked =
    subst (λ (ps : List (ℕ × ℕ)). All (λ (pair : ℕ × ℕ). (pair.0 < length slice) × IsLate old pair.1 (path_at (files_of slice) pair.0)) ps) (sym three)
    (subst (λ (us : List Users). All (λ (pair : ℕ × ℕ). (pair.0 < length us) × IsLate old pair.1 (path_at (files_of us) pair.0)) pairs) (sym two)
    (subst (λ (j : Jobs). All (λ (pair : ℕ × ℕ). (pair.0 < length users) × IsLate j pair.1 (path_at (files_of users) pair.0)) pairs) (sym one)
    (λ i d at.
    let pair = each_pair (files_of users) (IsWrong jobs Late) (IsFine jobs Late) pairs checked i d at in
    (omega (arith, pair.0, length-map users (λ (user : Users). user.file)), pair.1))))

pub late_by_of : (jobs old : Jobs) (users slice : List Users) (pairs given : List (ℕ × ℕ)) (writers : List ℕ) → old ≡ jobs → slice ≡ users → given ≡ pairs
    → AreLateBy old (files_of slice) given writers → AreLateBy jobs (files_of users) pairs writers
late_by_of jobs old users slice pairs given writers one two three late =
    subst (λ (ps : List (ℕ × ℕ)). AreLateBy jobs (files_of users) ps writers) three
    (subst (λ (us : List Users). AreLateBy jobs (files_of us) given writers) two (subst (λ (j : Jobs). AreLateBy j (files_of slice) given writers) one late))

-- what was found of the files of some users
pub record AreResults (jobs : Jobs) (listing : List Name) (users : List Users) (found : Violations) : Type 0 where
  pub same : found.files.items ≡ files_of users
  pub rise : IsStrictlySortedBy path_cmp (files_of users)
  pub files : (p : Path) → Contains (files_of users) p ↔ IsFile jobs p
  pub used : All (AreUsers jobs) users
  pub last : found.last.items ≡ map (λ (user : Users). user.last) users
  pub unwatched : List (ℕ × ℕ)
  pub all_unwatched : AreChecked (files_of users) (IsWrong jobs Unwatched) (IsFine jobs Unwatched) unwatched
  pub missing : found.missing.items ≡ filter (λ (pair : ℕ × ℕ). not (get_or (map (is_nowhere listing) users) pair.0 false)) unwatched
  pub unlisted : found.unlisted ≡ length (filter (λ (pair : ℕ × ℕ). get_or (map (is_nowhere listing) users) pair.0 false) unwatched)
  pub late : AreChecked (files_of users) (IsWrong jobs Late) (IsFine jobs Late) found.late.items
  pub late_by : AreLateBy jobs (files_of users) found.late.items found.late_by.items
  pub shared : AreChecked (files_of users) (IsWrong jobs Shared) (IsFine jobs Shared) found.shared.items
  pub present_rise : IsStrictlyIncreasing found.present.items
  pub present : (n : ℕ) → Contains found.present.items n ↔ IsPresent jobs n
  pub outputs : ArePlacesWhere (files_of users) (IsListedOutput jobs listing) found.outputs.items
  pub trees : ArePlacesWhere (files_of users) (IsWrittenTree jobs) found.trees.items

module _ (jobs : Jobs) (listing : List Name) (users : List Users) (found : Violations) (shape : IsWellFormed jobs) (are : AreResults jobs listing users found) where
  files : (p : Path) → Contains found.files.items p ↔ IsFile jobs p
  files p = subst (λ (ps : List Path). Contains ps p ↔ IsFile jobs p) (sym are.same) (are.files p)

  -- the same of the files found
  checked : (kind : Kind) (pairs : List (ℕ × ℕ)) → AreChecked (files_of users) (IsWrong jobs kind) (IsFine jobs kind) pairs → AreChecked found.files.items (IsWrong jobs kind) (IsFine jobs kind) pairs
  checked kind pairs is = subst (λ (ps : List Path). AreChecked ps (IsWrong jobs kind) (IsFine jobs kind) pairs) (sym are.same) is

  -- the inputs that nobody watches, of unlisted files and of others
  missing : AreChecked found.files.items (IsMissing jobs listing) (IsSeen jobs listing) found.missing.items
  missing =
      let kept = kept_checked (files_of users) (IsUnwatched jobs) (IsWatched jobs) (IsMissing jobs listing) (IsSeen jobs listing) are.unwatched
      (λ pair. not (get_or (map (is_nowhere listing) users) pair.0 false)) (λ p. not (is_unlisted jobs listing p))
      (λ k n below. ap not (mark_at jobs listing users k shape (λ p. (are.files p).0) are.used below))
      (λ n p keep un. record { is = un; known = not_true (is_unlisted jobs listing p) keep }) (λ n p drop. inl (not_false (is_unlisted jobs listing p) drop)) (λ n p fine. inr fine) are.all_unwatched in
      subst (λ (ps : List Path). AreChecked ps (IsMissing jobs listing) (IsSeen jobs listing) found.missing.items) (sym are.same)
      (subst (AreChecked (files_of users) (IsMissing jobs listing) (IsSeen jobs listing)) (sym are.missing) kept)

  unlisted : AreSoMany found.files.items (IsUnlistedInput jobs listing) found.unlisted
  unlisted =
      let marked = filter (λ (pair : ℕ × ℕ). get_or (map (is_nowhere listing) users) pair.0 false) are.unwatched in
      let kept = kept_checked (files_of users) (IsUnwatched jobs) (IsWatched jobs) (IsUnlistedInput jobs listing) (IsKnown jobs listing) are.unwatched
      (λ pair. get_or (map (is_nowhere listing) users) pair.0 false) (is_unlisted jobs listing)
      (λ k n below. mark_at jobs listing users k shape (λ p. (are.files p).0) are.used below)
      (λ n p so un. record { is = un; unlisted = so }) (λ n p nay. inl nay) (λ n p fine. inr fine) are.all_unwatched in
      subst (λ (ps : List Path). AreSoMany ps (IsUnlistedInput jobs listing) found.unlisted) (sym are.same) (record {
        pairs = marked;
        all = all_are (files_of users) (IsUnlistedInput jobs listing) (IsKnown jobs listing) marked kept (unlisted_apart jobs listing);
        count = sym are.unlisted;
      })

  outputs : ArePlacesWhere found.files.items (IsListedOutput jobs listing) found.outputs.items
  outputs = subst (λ (ps : List Path). ArePlacesWhere ps (IsListedOutput jobs listing) found.outputs.items) (sym are.same) are.outputs

  trees : ArePlacesWhere found.files.items (IsWrittenTree jobs) found.trees.items
  trees = subst (λ (ps : List Path). ArePlacesWhere ps (IsWrittenTree jobs) found.trees.items) (sym are.same) are.trees

  pub violations_are : AreViolations jobs listing found
  violations_are = record {
    rise = subst (IsStrictlySortedBy path_cmp) (sym are.same) are.rise;
    files = files;
    last = subst (λ (ps : List Path). AreLast jobs ps found.last.items) (sym are.same) (last_are jobs users found.last.items are.used are.last);
    missing = all_are found.files.items (IsMissing jobs listing) (IsSeen jobs listing) found.missing.items missing (missing_apart jobs listing);
    unlisted = unlisted;
    late = all_are found.files.items (IsLate jobs) (IsFine jobs Late) found.late.items (checked Late found.late.items are.late) (late_apart jobs);
    late_by = subst (λ (ps : List Path). AreLateBy jobs ps found.late.items found.late_by.items) (sym are.same) are.late_by;
    shared = all_are found.files.items (IsShared jobs) (IsFine jobs Shared) found.shared.items (checked Shared found.shared.items are.shared) (shared_apart jobs);
    present_rise = are.present_rise;
    present = are.present;
    outputs = outputs;
    trees = trees;
  }

  pub declared_is : HasNone found ↔ (IsDeclared jobs (unlisted_names jobs listing) × WriteNoTrees jobs × ListsNoOutputs jobs listing)
  declared_is =
      let down = λ (p : Path). (files p).0 in
      let up = λ (p : Path). (files p).1 in
      let late = (checked Late found.late.items are.late).found in
      let shared = (checked Shared found.shared.items are.shared).found in
      let present_down = λ (n : ℕ). (are.present n).0 in
      let present_up = λ (n : ℕ). (are.present n).1 in (
        λ none.
            let trees_none = no_trees_if jobs listing shape found.files.items up found.outputs.items found.trees.items outputs trees none.trees in
            let absent = λ (n : ℕ) (present : IsPresent jobs n). no_pair n (subst (λ (ns : List ℕ). Contains ns n) none.present (present_up n present)) in (
              declared_if jobs shape listing found down up missing.found late shared present_up none.missing none.late none.shared none.present,
              trees_none,
              no_outputs_if jobs listing shape found.files.items up found.outputs.items found.trees.items outputs trees absent none.outputs trees_none,
            ),
        λ all.
            let none = none_if jobs shape listing found down missing.found late shared present_down all.0 in
            record {
              missing = none.0;
              late = none.1;
              shared = none.2;
              present = none.3;
              outputs = no_outputs_then jobs listing shape found.files.items up found.outputs.items found.trees.items outputs trees all.2;
              trees = no_trees_then jobs listing shape found.files.items up found.outputs.items found.trees.items outputs trees all.1;
            },
      )
