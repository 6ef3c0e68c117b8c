-- Files and their users, gathered one after another.
use Rattle.std.proofs.Common.{ℕ, ◌≡◌, ◌<◌, ◌≤◌, ◌+◌, ◌-◌, ◌↔◌, Bool, true, false, List, [], ◌∷◌, ◌++◌, Option, Some, None, length, map, take, get_or, All, Contains, refl, sym, ap, subst, ◌∙◌, inl, inr, arith}
use Rattle.std.specs.Prelude.{slice_get}
use Rattle.std.specs.List.{Any}
use Rattle.std.specs.List.Sorted.{IsStrictlyIncreasing}
use Rattle.std.proofs.lemmas.Bool.{both_ways, cases_Bool, cases_order}
use Rattle.std.proofs.lemmas.List.{get_or-map, get_or_default, length-map, map_push, take_more}
use Rattle.std.proofs.lemmas.List.Elements.{All-contains, All-push, Contains-get_or}
use Rattle.std.proofs.lemmas.List.Folds.{Any-from_list_any}
use Rattle.std.proofs.lemmas.List.Kept.{AllPairs-from_increasing}
use Rattle.std.proofs.lemmas.Option.{slice_get_cases}
use Rattle.mk_index.specs.declared.index.Place.{Place}
use Rattle.mk_path.specs.declared.path.Path.{Path}
use Rattle.mk_path.specs.Paths.{is_over}
use Rattle.mk_index.specs.Uses.{AreAllPlaces, has_over, path_of, paths_of}
use Rattle.mk_jobs.specs.Jobs.{Jobs, node_count, reads_of, writes_of}
use Rattle.mk_jobs.specs.Reaching.{uses_of}
use Rattle.mk_jobs.specs.Shape.{IsWellFormed}
use Rattle.mk_jobs.proofs.JobsLemmas.{live_node}
use Rattle.mk_missing.specs.Files.{IsFile, IsLastIfAny, reads_file, writes_file}
use Rattle.mk_missing.specs.Users.{AreUsers, IsOnlyReader, files_of}
use Rattle.mk_missing.specs.declared.users.Users.{Users}
use Rattle.mk_missing.proofs.Keeping.{AreKept, empty_if, no_pair}
use Rattle.mk_missing.proofs.Standing.{reader_live, writer_live}

-- the greatest of some numbers, if there is one
abbrev pub IsMost : List ℕ → Option ℕ → Type 0
IsMost numbers (Some m) = Contains numbers m × All (λ n. n ≤ m) numbers
IsMost numbers None = numbers ≡ []

-- the last of numbers that rise
pub last_most : (numbers : List ℕ) (last : Option ℕ) → IsStrictlyIncreasing numbers → last ≡ slice_get numbers (length numbers - 1) → IsMost numbers last
last_most [] last rise is = subst (IsMost []) (sym is) refl
last_most (n ∷ ns) last rise is =
    let row = n ∷ ns in
    let end = length row - 1 in
    elim (slice_get_cases row end).1 [
      | inr past ↦ absurd (omega (arith, past.0))
      | inl found ↦
          let m = found.0 in
          let at : get_or row end m ≡ m = found.3 in
          subst (IsMost row) (sym (is ∙ found.2)) (
            (end, found.1, at),
            λ k d below. elim (cases_order k end) [
              | inl same ↦ omega (arith, get_or_default row k d m below, ap (λ i. get_or row i m) same, at)
              | inr (inl less) ↦ omega (arith, AllPairs-from_increasing row rise k end d less found.1, get_or_default row end d m found.1, at)
              | inr (inr more) ↦ absurd (omega (arith, more, below))
            ],
          )
    ]

-- who uses a file, by who reads it and who writes it
pub users_are : (jobs : Jobs) (users : Users) (readers : List ℕ) → ((n : ℕ) → Contains readers n ↔ (reads_file jobs n users.file ≡ true))
    → ((n : ℕ) → Contains users.writers.items n ↔ (writes_file jobs n users.file ≡ true))
    → AreKept (IsOnlyReader jobs users.writers.items users.file) readers users.inputs.items → IsMost users.writers.items users.last → AreUsers jobs users
users_are jobs users readers reads writes inputs most = record {
  inputs = λ n. (
    λ there.
        let at = (inputs n).0 there in record {
          reads = (reads n).0 at.0;
          foreign = elim (cases_Bool (writes_file jobs n users.file)) [ inr nay ↦ nay | inl so ↦ absurd (at.1.0 ((writes n).1 so)) ];
          itself = λ nobody. at.1.1 (empty_if users.writers.items (λ m there. both_ways (writes_file jobs m users.file) (nobody m) ((writes m).0 there)));
        },
    λ input. (inputs n).1 (
      (reads n).1 input.reads,
      (
        λ has. both_ways (writes_file jobs n users.file) input.foreign ((writes n).0 has),
        λ empty. input.itself (λ m. elim (cases_Bool (writes_file jobs m users.file)) [
          | inr nay ↦ nay
          | inl so ↦ absurd (no_pair m (subst (λ (ms : List ℕ). Contains ms m) empty ((writes m).1 so)))
        ]),
      ),
    ),
  );
  writers = writes;
  last = last_if users.writers.items users.last most (λ n. (writes n).0) (λ n. (writes n).1);
}
  where
    last_if : (list : List ℕ) (last : Option ℕ) → IsMost list last → ((n : ℕ) → Contains list n → writes_file jobs n users.file ≡ true)
        → ((n : ℕ) → writes_file jobs n users.file ≡ true → Contains list n) → IsLastIfAny jobs users.file last
    last_if list None is down up = λ m writes'. omega (arith, (subst (λ (ns : List ℕ). Contains ns m) is (up m writes')).1)
    last_if list (Some w) is down up = record { writes = down w is.0; last = λ m writes'. All-contains (λ n. n ≤ w) list m is.1 (up m writes') }

-- in the words of the index
pub over_reads : (jobs : Jobs) (n : ℕ) (p : Path) → has_over (uses_of jobs) n false p ≡ reads_file jobs n p
unfolding reads_of
over_reads jobs n p = refl

pub over_writes : (jobs : Jobs) (n : ℕ) (p : Path) → has_over (uses_of jobs) n true p ≡ writes_file jobs n p
unfolding writes_of
over_writes jobs n p = refl

file_of : (jobs : Jobs) (n : ℕ) (written : Bool) (p : Path) → Contains (paths_of (uses_of jobs) n written) p → IsFile jobs p
unfolding reads_of writes_of
file_of jobs n true p there = (n, inr there)
file_of jobs n false p there = (n, inl there)

-- the files at some places, with their users
pub record AreUsed (jobs : Jobs) (places : List Place) (all : List Users) : Type 0 where
  pub files : files_of all ≡ map (path_of (uses_of jobs)) places
  pub users : All (AreUsers jobs) all

pub used_none : (jobs : Jobs) → AreUsed jobs [] []
used_none jobs = record { files = refl; users = λ k d below. absurd (omega (arith, below)) }

pub used_more : (jobs : Jobs) (places : List Place) (place : Place) (users : List Users) (user : Users) → AreUsed jobs places users → user.file ≡ path_of (uses_of jobs) place → AreUsers jobs user
    → AreUsed jobs (places ++ place ∷ []) (users ++ user ∷ [])
used_more jobs places place users user used file are = record {
  files = map_push (λ (u : Users). u.file) users user ∙ ap (λ (p : Path). files_of users ++ p ∷ []) file ∙ ap (λ (ps : List Path). ps ++ path_of (uses_of jobs) place ∷ []) used.files
      ∙ sym (map_push (path_of (uses_of jobs)) places place);
  users = All-push (AreUsers jobs) users user used.users are;
}

pub used_at : (jobs : Jobs) (places : List Place) (i : ℕ) (d : Place) (users new : List Users) (user : Users) → i < length places → AreUsed jobs (take i places) users
    → user.file ≡ path_of (uses_of jobs) (get_or places i d) → AreUsers jobs user → new ≡ users ++ user ∷ [] → AreUsed jobs (take (i + 1) places) new
used_at jobs places i d users new user below used file are is =
    subst (AreUsed jobs (take (i + 1) places)) (sym is)
    (subst (λ (ps : List Place). AreUsed jobs ps (users ++ user ∷ [])) (sym (take_more places i d below)) (used_more jobs (take i places) (get_or places i d) users user used file are))

-- the files at all places are those of the jobs
pub files_are : (jobs : Jobs) (places : List Place) → AreAllPlaces (uses_of jobs) places → (p : Path) → Contains (map (path_of (uses_of jobs)) places) p ↔ IsFile jobs p
unfolding reads_of writes_of
files_are jobs places all p = (
  λ there.
      let uses = uses_of jobs in
      let d : Place = record { node = 0; written = true; place = 0 } in
      let k = there.0 in
      let below : k < length places = omega (arith, there.1, length-map places (path_of uses)) in
      let place = get_or places k d in
      let is : path_of uses place ≡ p = sym (get_or-map (path_of uses) places k d p below) ∙ there.2 in
      let row = paths_of uses place.node place.written in
      file_of jobs place.node place.written p (subst (Contains row) is (Contains-get_or row place.place (record { name = []; tree = false }) (all.within k d below))),
  λ is. elim is.1 [ inl read ↦ all.all is.0 false p read | inr written ↦ all.all is.0 true p written ],
)

-- who reads or writes a file is a node
pub reader_node : (jobs : Jobs) (n : ℕ) (p : Path) → IsWellFormed jobs → reads_file jobs n p ≡ true → n < node_count jobs
reader_node jobs n p shape reads =
    let any : Any (λ q. is_over jobs.root q p ≡ true) (reads_of jobs n) = Any-from_list_any (λ q. is_over jobs.root q p) (reads_of jobs n) reads in
    live_node jobs n (reader_live jobs shape n any.1 (any.0, any.2, any.3))

pub writer_node : (jobs : Jobs) (n : ℕ) (p : Path) → IsWellFormed jobs → writes_file jobs n p ≡ true → n < node_count jobs
writer_node jobs n p shape writes =
    let any : Any (λ q. is_over jobs.root q p ≡ true) (writes_of jobs n) = Any-from_list_any (λ q. is_over jobs.root q p) (writes_of jobs n) writes in
    live_node jobs n (writer_live jobs shape n any.1 (any.0, any.2, any.3))
