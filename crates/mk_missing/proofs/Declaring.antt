-- Jobs are declared just where no violation was found.
use Rattle.std.proofs.Common.{ℕ, suc, zero, ◌≡◌, ◌<◌, not, true, false, ap, List, [], ◌∷◌, ◌⊎◌, length, get_or, Contains, refl, sym, subst, ◌∙◌, inl, inr, arith, lt_trans}
use Rattle.std.proofs.lemmas.Bool.{and_from, and_parts, both_ways, cases_Bool}
use Rattle.std.proofs.lemmas.List.Elements.{Contains-get_or}
use Rattle.mk_name.specs.Names.{Name}
use Rattle.mk_path.specs.declared.path.Path.{Path}
use Rattle.mk_path.specs.Laws.{Covers}
use Rattle.mk_path.specs.Paths.{path_at}
use Rattle.mk_jobs.specs.Jobs.{Jobs, is_listed, may_write, node_count, reads_of}
use Rattle.mk_jobs.specs.Shape.{IsWellFormed}
use Rattle.mk_jobs.proofs.JobsLemmas.{live_node, reader_live}
use Rattle.mk_missing.specs.Watching.{Carries, IsDeclared, IsInput, IsLastWriter, IsNamed, Watches, always, named, through, written, never}
use Rattle.mk_missing.specs.declared.violations.Violations.{Violations}
use Rattle.mk_missing.specs.Unlisted.{unlisted_names, is_unlisted}
use Rattle.mk_missing.specs.Files.{IsFile, IsInputFile, IsLastWriterOf, WatchesFile, often, by_name, by_chain, by_writer, not_there, reads_file, writes_file}
use Rattle.mk_missing.specs.Finding.{AreChecked, AreFound, IsInTime, IsKnown, IsSeen, IsTogether, IsWatched}
use Rattle.mk_missing.specs.Violations.{AreAll, IsLate, IsMissing, IsPresent, IsShared, IsUnwatched, IsUnlistedInput}
use Rattle.mk_missing.proofs.NotListed.{Seeker, unsought_there, written_there}
use Rattle.mk_missing.proofs.Fresh.{covers_file}
use Rattle.mk_missing.proofs.Keeping.{empty_if, no_pair}
use Rattle.mk_missing.proofs.Presents.{not_true}
use Rattle.mk_missing.proofs.Standing.{NameFor, StandsFor, file_for, name_for, read_path, reads_name, reads_own, writes_name}

-- what is checked is exact, where a kind and what is fine of it exclude each other
pub all_are : (files : List Path) (Holds Fine : ℕ → Path → Type 0) (pairs : List (ℕ × ℕ)) → AreChecked files Holds Fine pairs
    → ((n : ℕ) (p : Path) → Holds n p → Fine n p → ⊥) → AreAll files Holds pairs
all_are files Holds Fine pairs checked apart = record {
  rise = checked.rise;
  exact = λ k n. (
    λ there. checked.found.only k n there,
    λ here. elim (checked.found.all k n here.0) [
      | inl there ↦ there
      | inr fine ↦ absurd (apart n (path_at files k) here.1 fine)
    ],
  );
}

unwatched_apart : (jobs : Jobs) (n : ℕ) (p : Path) → IsUnwatched jobs n p → IsWatched jobs n p → ⊥
unwatched_apart jobs n p un watched = un.unwatched (watched un.input)

pub missing_apart : (jobs : Jobs) (listing : List Name) (n : ℕ) (p : Path) → IsMissing jobs listing n p → IsSeen jobs listing n p → ⊥
missing_apart jobs listing n p missing (inl unlisted) = both_ways (is_unlisted jobs listing p) missing.known unlisted
missing_apart jobs listing n p missing (inr watched) = unwatched_apart jobs n p missing.is watched

pub unlisted_apart : (jobs : Jobs) (listing : List Name) (n : ℕ) (p : Path) → IsUnlistedInput jobs listing n p → IsKnown jobs listing n p → ⊥
unlisted_apart jobs listing n p input (inl known) = both_ways (is_unlisted jobs listing p) known input.unlisted
unlisted_apart jobs listing n p input (inr watched) = unwatched_apart jobs n p input.is watched

pub late_apart : (jobs : Jobs) (n : ℕ) (p : Path) → IsLate jobs n p → IsInTime jobs n p → ⊥
late_apart jobs n p late time = late.late (time late.input late.writer late.writes)

pub shared_apart : (jobs : Jobs) (n : ℕ) (p : Path) → IsShared jobs n p → IsTogether jobs n p → ⊥
shared_apart jobs n p shared together = elim (together shared.writes shared.writer shared.last) [
  | inl same ↦ shared.other same
  | inr runs ↦ shared.apart runs
]

module _ (jobs : Jobs) (shape : IsWellFormed jobs) where
  -- with no pair of a kind, all files are fine
  all_fine : (files : List Path) (Holds Fine : ℕ → Path → Type 0) (pairs : List (ℕ × ℕ)) → AreFound files Holds Fine pairs (length files) → pairs ≡ []
      → (n : ℕ) (p : Path) → Contains files p → Fine n p
  all_fine files Holds Fine pairs found none n p there =
      let k = there.0 in
      let is : path_at files k ≡ p = default_at files k p there.1 ∙ there.2 in
      elim (found.all k n there.1) [
        | inl pair ↦ absurd (no_pair (k, n) (subst (λ (ps : List (ℕ × ℕ)). Contains ps (k, n)) none pair))
        | inr fine ↦ subst (Fine n) is fine
      ]
    where
      default_at : (ps : List Path) (i : ℕ) (d : Path) → i < length ps → path_at ps i ≡ get_or ps i d
      default_at [] i d below = absurd (omega arith)
      default_at (q ∷ ps) zero d below = refl
      default_at (q ∷ ps) (suc i) d below = default_at ps i d (omega arith)

  -- an input by a path over it, which a node reads; where somebody writes the path, it need not be the node's own
  input_file : (n : ℕ) (p : Path) (x : Name) → Covers jobs.root p x → reads_file jobs n p ≡ true → IsInput jobs n x
      → (((m : ℕ) → writes_file jobs m p ≡ false) → Contains (reads_of jobs n) p) → IsInputFile jobs n p
  input_file n p x covering reads input itself = record {
    reads = reads;
    foreign = elim (cases_Bool (writes_file jobs n p)) [
      | inr nay ↦ nay
      | inl so ↦ absurd (both_ways (may_write jobs n x) input.foreign (writes_name jobs shape n p x covering so))
    ];
    itself = itself;
  }

  -- an input by its file, which somebody writes
  written_file : (n m : ℕ) (p : Path) (x : Name) → StandsFor jobs shape p x → IsInput jobs n x → writes_file jobs m p ≡ true → IsInputFile jobs n p
  written_file n m p x stands input writes =
      input_file n p x stands.covering (stands.reads n input.reads) input (λ nobody. absurd (both_ways (writes_file jobs m p) (nobody m) writes))

  file_input : (n : ℕ) (p : Path) (x : Name) → StandsFor jobs shape p x → IsInputFile jobs n p → IsInput jobs n x
  file_input n p x stands input = record {
    reads = reads_name jobs shape n p x stands.covering input.reads;
    foreign = elim (cases_Bool (may_write jobs n x)) [
      | inr nay ↦ nay
      | inl so ↦ absurd (both_ways (writes_file jobs n p) input.foreign (stands.writes n so))
    ];
  }

  -- a last writer by its file
  last_name : (w : ℕ) (p : Path) (x : Name) → StandsFor jobs shape p x → IsLastWriterOf jobs w p → IsLastWriter jobs w x
  last_name w p x stands last = record {
    writes = writes_name jobs shape w p x stands.covering last.writes;
    last = λ m may. last.last m (stands.writes m may);
  }

  last_file : (w : ℕ) (p : Path) (x : Name) → StandsFor jobs shape p x → IsLastWriter jobs w x → IsLastWriterOf jobs w p
  last_file w p x stands last = record {
    writes = stands.writes w last.writes;
    last = λ m writes. last.last m (writes_name jobs shape m p x stands.covering writes);
  }

  -- who watches a file that covers a name watches the name, or it watches the file by its last writer
  covered_watched : (n : ℕ) (p : Path) (x : Name) → Covers jobs.root p x → WatchesFile jobs n p
      → Watches jobs n x ⊎ ((w : ℕ) × IsLastWriterOf jobs w p × Carries jobs w n)
  covered_watched n p x covering watches =
      let is : p.tree ≡ false → p.name ≡ x = λ file. covers_file jobs.root p x file covering in
      elim watches [
        | often runs ↦ inl (always runs)
        | by_name file name ↦ inl (named (subst (IsNamed jobs n) (is file) name))
        | by_chain {k = k} file live name way ↦ inl (through live (subst (IsNamed jobs k) (is file) name) way)
        | by_writer {w = w} last way ↦ inr (w, last, way)
        | not_there file inside name nowhere ↦ inl (never inside (name ∙ is file) nowhere)
      ]

  -- who watches the file that stands for a name watches the name
  name_watched : (n : ℕ) (p : Path) (x : Name) → StandsFor jobs shape p x → WatchesFile jobs n p → Watches jobs n x
  name_watched n p x stands watches = elim (covered_watched n p x stands.covering watches) [
    | inl so ↦ so
    | inr by ↦ written (last_name by.0 p x stands by.1) by.2
  ]

  -- and who watches a name that stands for the file watches the file
  named_file : (n : ℕ) (p : Path) → (name : NameFor jobs shape p) → (q : ℕ) → q < node_count jobs → IsNamed jobs q name.name → (p.tree ≡ false) × IsNamed jobs q p.name
  named_file n p name q inside is = elim (cases_Bool p.tree) [
    | inl tree ↦ absurd (name.tree tree is.0 (lt_trans (shape.smaller q is.0 is.1) inside) is.2)
    | inr file ↦ (file, subst (IsNamed jobs q) (sym (name.file file)) is)
  ]

  file_watched : (n : ℕ) (p : Path) (name : NameFor jobs shape p) → n < node_count jobs → Watches jobs n name.name → WatchesFile jobs n p
  file_watched n p name inside watches = elim watches [
    | always runs ↦ often runs
    | named is ↦ let at = named_file n p name n inside is in by_name at.0 at.1
    | through {k = k} live is way ↦ let at = named_file n p name k (live_node jobs k live) is in by_chain at.0 live at.1 way
    | written {w = w} last way ↦ by_writer (last_file w p name.name name.stands last) way
    | never {p = k} below is nowhere ↦ elim (cases_Bool p.tree) [
      | inl tree ↦ absurd (name.tree tree k below is)
      | inr file ↦ not_there file below (is ∙ sym (name.file file)) nowhere
    ]
  ]

  -- a file whose name is unlisted is unlisted, and of a tree no name that stands for it is
  unlisted_by : (listing : List Name) (p : Path) (x : Name) → Covers jobs.root p x → is_unlisted jobs listing p ≡ true → unlisted_names jobs listing x ≡ true
  unlisted_by listing p x covering unlisted =
      let parts = and_parts (not p.tree) (unlisted_names jobs listing p.name) unlisted in
      subst (λ (y : Name). unlisted_names jobs listing y ≡ true) (covers_file jobs.root p x (not_true p.tree parts.0) covering) parts.1

  by_unlisted : (listing : List Name) (p : Path) (name : NameFor jobs shape p) → unlisted_names jobs listing name.name ≡ true → is_unlisted jobs listing p ≡ true
  by_unlisted listing p name unlisted = elim (cases_Bool p.tree) [
    | inl tree ↦ absurd (both_ways (unlisted_names jobs listing name.name)
        (unsought_there jobs listing name.name (λ (seeker : Seeker jobs name.name). name.unread tree seeker.node seeker.path seeker.there seeker.name)) unlisted)
    | inr file ↦ and_from (not p.tree) (unlisted_names jobs listing p.name) (ap not file) (subst (λ (y : Name). unlisted_names jobs listing y ≡ true) (sym (name.file file)) unlisted)
  ]

  module _ (listing : List Name) (found : Violations) (rise_files : (p : Path) → Contains found.files.items p → IsFile jobs p) (up : (p : Path) → IsFile jobs p → Contains found.files.items p)
      (missing : AreFound found.files.items (IsMissing jobs listing) (IsSeen jobs listing) found.missing.items (length found.files.items))
      (late : AreFound found.files.items (IsLate jobs) (IsInTime jobs) found.late.items (length found.files.items))
      (shared : AreFound found.files.items (IsShared jobs) (IsTogether jobs) found.shared.items (length found.files.items))
      (present_up : (n : ℕ) → IsPresent jobs n → Contains found.present.items n) where
    pub declared_if : found.missing.items ≡ [] → found.late.items ≡ [] → found.shared.items ≡ [] → found.present.items ≡ [] → IsDeclared jobs (unlisted_names jobs listing)
    declared_if no_missing no_late no_shared no_present = record {
      watched = λ n x input.
          let own = read_path jobs shape n x input.reads in
          let at = file_for jobs shape found.files.items n x rise_files up (inl input.reads) in
          let seen : (p : Path) → IsFile jobs p → Covers jobs.root p x → IsInputFile jobs n p → (unlisted_names jobs listing x ≡ true) ⊎ WatchesFile jobs n p =
          λ p is covering given. elim (all_fine found.files.items (IsMissing jobs listing) (IsSeen jobs listing) found.missing.items missing no_missing n p (up p is)) [
            | inl unlisted ↦ inl (unlisted_by listing p x covering unlisted)
            | inr fine ↦ inr (fine given)
          ] in
          elim (seen own.0 (n, inl own.1) own.2 (input_file n own.0 x own.2 (reads_own jobs shape n own.0 own.1) input (λ nobody. own.1))) [
            | inl fixed ↦ inl fixed
            | inr watches ↦ elim (covered_watched n own.0 x own.2 watches) [
              | inl so ↦ inr so
              | inr by ↦
                  let writes = at.stands.writes by.0 (writes_name jobs shape by.0 own.0 x own.2 by.1.writes) in
                  elim (seen at.path at.is_file at.stands.covering (written_file n by.0 at.path x at.stands input writes)) [
                    | inl fixed ↦ inl fixed
                    | inr watches ↦ inr (name_watched n at.path x at.stands watches)
                  ]
            ]
          ];
      earlier = λ n m x input may.
          let at = file_for jobs shape found.files.items n x rise_files up (inl input.reads) in
          let fine = all_fine found.files.items (IsLate jobs) (IsInTime jobs) found.late.items late no_late n at.path (up at.path at.is_file) in
          let writes = at.stands.writes m may in
          fine (written_file n m at.path x at.stands input writes) m writes;
      last = λ n w x may last.
          let at = file_for jobs shape found.files.items n x rise_files up (inr may) in
          let fine = all_fine found.files.items (IsShared jobs) (IsTogether jobs) found.shared.items shared no_shared n at.path (up at.path at.is_file) in
          fine (at.stands.writes n may) w (last_file w at.path x at.stands last);
      made = λ n x may. written_there jobs listing n x may;
      absent = λ n live plain. elim (cases_Bool (is_listed jobs n)) [
        | inr nay ↦ nay
        | inl listed ↦ absurd (no_pair n (subst (λ (ns : List ℕ). Contains ns n) no_present (present_up n (record { live = live; plain = plain; listed = listed }))))
      ];
    }

  module _ (listing : List Name) (found : Violations) (rise_files : (p : Path) → Contains found.files.items p → IsFile jobs p)
      (missing : AreFound found.files.items (IsMissing jobs listing) (IsSeen jobs listing) found.missing.items (length found.files.items))
      (late : AreFound found.files.items (IsLate jobs) (IsInTime jobs) found.late.items (length found.files.items))
      (shared : AreFound found.files.items (IsShared jobs) (IsTogether jobs) found.shared.items (length found.files.items))
      (present_down : (n : ℕ) → Contains found.present.items n → IsPresent jobs n) where
    -- the name for the file at a place
    name_at : (k : ℕ) → k < length found.files.items → NameFor jobs shape (path_at found.files.items k)
    name_at k below = name_for jobs shape (path_at found.files.items k) (rise_files _ (Contains-get_or found.files.items k (record { name = []; tree = false }) below))

    pub none_if : IsDeclared jobs (unlisted_names jobs listing) → (found.missing.items ≡ []) × (found.late.items ≡ []) × (found.shared.items ≡ []) × (found.present.items ≡ [])
    none_if declared = (
      empty_if found.missing.items (λ pair there.
          let is = missing.only pair.0 pair.1 there in
          let name = name_at pair.0 is.0 in
          let p = path_at found.files.items pair.0 in
          let input = file_input pair.1 p name.name name.stands is.1.is.input in
          elim (declared.watched pair.1 name.name input) [
            | inl fixed ↦ both_ways (is_unlisted jobs listing p) is.1.known (by_unlisted listing p name fixed)
            | inr watches ↦ is.1.is.unwatched (file_watched pair.1 p name (live_node jobs pair.1 (reader_live jobs pair.1 name.name input.reads)) watches)
          ]),
      empty_if found.late.items (λ pair there.
          let is = late.only pair.0 pair.1 there in
          let name = name_at pair.0 is.0 in
          let p = path_at found.files.items pair.0 in
          is.1.late (declared.earlier pair.1 is.1.writer name.name (file_input pair.1 p name.name name.stands is.1.input)
          (writes_name jobs shape is.1.writer p name.name name.stands.covering is.1.writes))),
      empty_if found.shared.items (λ pair there.
          let is = shared.only pair.0 pair.1 there in
          let name = name_at pair.0 is.0 in
          let p = path_at found.files.items pair.0 in
          elim (declared.last pair.1 is.1.writer name.name (writes_name jobs shape pair.1 p name.name name.stands.covering is.1.writes) (last_name is.1.writer p name.name name.stands is.1.last)) [
            | inl same ↦ is.1.other same
            | inr runs ↦ is.1.apart runs
          ]),
      empty_if found.present.items (λ n there.
          let is = present_down n there in
          both_ways (is_listed jobs n) (declared.absent n is.live is.plain) is.listed),
    )
