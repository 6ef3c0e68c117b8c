-- A name for each file, and a file for each name: what stands for the other.
use Rattle.std.proofs.Common.{ℕ, suc, zero, ◌≡◌, ◌<◌, ◌≤◌, ◌+◌, ◌⊎◌, true, false, List, [], ◌∷◌, length, Contains, refl, sym, subst, inl, inr, arith}
use Rattle.std.specs.List.{Any}
use Rattle.std.proofs.lemmas.Bool.{and_from, and_parts, both_ways, cases_Bool}
use Rattle.std.proofs.lemmas.List.Elements.{All-contains, Contains-append_right}
use Rattle.std.proofs.lemmas.List.Folds.{Any-from_list_any, list_any-from_Any}
use Rattle.mk_name.specs.Names.{Name}
use Rattle.mk_path.specs.declared.path.Path.{Path}
use Rattle.mk_path.specs.Laws.{Covers, IsOver}
use Rattle.mk_path.specs.Paths.{covers, is_over}
use Rattle.mk_path.proofs.Overs.{covers_own_name, over_covers, over_further, over_self, paths_of_one_name}
use Rattle.mk_jobs.specs.Jobs.{Jobs, is_live, may_read, may_write, name_of, node_count, reads_of, writes_of}
use Rattle.mk_jobs.specs.Shape.{IsWellFormed}
use Rattle.mk_missing.specs.Files.{IsFile, reads_file, writes_file}
use Rattle.mk_missing.proofs.Fresh.{below, bytes_in, is_below, name_apart, over_file, over_tree, read_apart, read_short, tree_covers, write_short}

-- of some paths that cover a name one that all others are over; or none covers it
record Lowest (root : List ℕ) (paths : List Path) (x : Name) : Type 0 where
  path : Path
  there : Contains paths path
  covering : Covers root path x
  least : (q : Path) → Contains paths q → Covers root q x → IsOver root q path

abbrev Nothing : List ℕ → List Path → Name → Type 0
Nothing root paths x = (q : Path) → Contains paths q → Covers root q x → ⊥

first_or : (p q : Path) (paths : List Path) → Contains (p ∷ paths) q → (p ≡ q) ⊎ Contains paths q
first_or p q paths (zero, less, is) = inl is
first_or p q paths (suc k, less, is) = inr (k, omega arith, is)

lowest : (root : List ℕ) (paths : List Path) (x : Name) → Lowest root paths x ⊎ Nothing root paths x
lowest root [] x = inr (λ q there covers. absurd (omega (arith, there.1)))
lowest root (p ∷ paths) x =
    let self : Contains (p ∷ paths) p = (0, omega arith, refl) in
    let more : Lowest root paths x → ((q : Path) → p ≡ q → Covers root q x → (l : Lowest root paths x) → IsOver root q l.path) → Lowest root (p ∷ paths) x =
    λ l over. record {
      path = l.path;
      there = Contains-append_right (p ∷ []) paths l.path l.there;
      covering = l.covering;
      least = λ q there covers. elim (first_or p q paths there) [ inl same ↦ over q same covers l | inr rest ↦ l.least q rest covers ];
    } in
    elim (cases_Bool (covers root p x)) [
      | inr nay ↦
          let never : (q : Path) → p ≡ q → Covers root q x → ⊥ = λ q same at. both_ways (covers root p x) nay (subst (λ (r : Path). Covers root r x) (sym same) at) in
          elim (lowest root paths x) [
            | inl l ↦ inl (more l (λ q same covers _. absurd (never q same covers)))
            | inr none ↦ inr (λ q there covers. elim (first_or p q paths there) [ inl same ↦ never q same covers | inr rest ↦ none q rest covers ])
          ]
      | inl so ↦
          let mine : ((q : Path) → Contains paths q → Covers root q x → IsOver root q p) → Lowest root (p ∷ paths) x = λ over. record {
            path = p;
            there = self;
            covering = so;
            least = λ q there covers. elim (first_or p q paths there) [
              | inl same ↦ subst (λ (r : Path). IsOver root r p) same (over_self root p)
              | inr rest ↦ over q rest covers
            ];
          } in
          elim (lowest root paths x) [
            | inr none ↦ inl (mine (λ q rest covers. absurd (none q rest covers)))
            | inl l ↦ elim (paths_of_one_name root p l.path x so l.covering) [
              | inl upper ↦ inl (record {
                path = l.path;
                there = Contains-append_right (p ∷ []) paths l.path l.there;
                covering = l.covering;
                least = λ q there covers. elim (first_or p q paths there) [
                  | inl same ↦ subst (λ (r : Path). IsOver root r l.path) same upper
                  | inr rest ↦ l.least q rest covers
                ];
              })
              | inr lower ↦ inl (mine (λ q rest covers. over_further root q l.path p (l.least q rest covers) lower))
            ]
          ]
    ]

module _ (jobs : Jobs) (shape : IsWellFormed jobs) where
  pub reader_live : (n : ℕ) (p : Path) → Contains (reads_of jobs n) p → is_live jobs n ≡ true
  reader_live n p there = elim (cases_Bool (is_live jobs n)) [
    | inl live ↦ live
    | inr idle ↦ absurd (omega (arith, (subst (λ (ps : List Path). Contains ps p) (shape.no_reads n idle) there).1))
  ]

  pub writer_live : (n : ℕ) (p : Path) → Contains (writes_of jobs n) p → is_live jobs n ≡ true
  writer_live n p there = elim (cases_Bool (is_live jobs n)) [
    | inl live ↦ live
    | inr idle ↦ absurd (omega (arith, (subst (λ (ps : List Path). Contains ps p) (shape.no_writes n idle) there).1))
  ]

  -- who may read a name reads a path that covers it
  pub read_path : (n : ℕ) (x : Name) → may_read jobs n x ≡ true → (p : Path) × Contains (reads_of jobs n) p × Covers jobs.root p x
  unfolding may_read
  read_path n x may =
      let any : Any (λ q. covers jobs.root q x ≡ true) (reads_of jobs n) = Any-from_list_any (λ q. covers jobs.root q x) (reads_of jobs n) (and_parts (is_live jobs n) _ may).1 in
      (any.1, (any.0, any.2, any.3), any.4)

  -- and who reads a path reads it as a file
  pub reads_own : (n : ℕ) (p : Path) → Contains (reads_of jobs n) p → reads_file jobs n p ≡ true
  reads_own n p there = list_any-from_Any (λ q. is_over jobs.root q p) (reads_of jobs n) (there.0, p, there.1, there.2, over_self jobs.root p)

  -- who reads or writes a file may read or write each name that it covers
  pub reads_name : (n : ℕ) (p : Path) (x : Name) → Covers jobs.root p x → reads_file jobs n p ≡ true → may_read jobs n x ≡ true
  unfolding may_read
  reads_name n p x covering reads =
      let any : Any (λ q. is_over jobs.root q p ≡ true) (reads_of jobs n) = Any-from_list_any (λ q. is_over jobs.root q p) (reads_of jobs n) reads in
      let there : Contains (reads_of jobs n) any.1 = (any.0, any.2, any.3) in
      and_from (is_live jobs n) _ (reader_live n any.1 there)
      (list_any-from_Any (λ q. covers jobs.root q x) (reads_of jobs n) (any.0, any.1, any.2, any.3, over_covers jobs.root any.1 p x any.4 covering))

  pub writes_name : (n : ℕ) (p : Path) (x : Name) → Covers jobs.root p x → writes_file jobs n p ≡ true → may_write jobs n x ≡ true
  unfolding may_write
  writes_name n p x covering writes =
      let any : Any (λ q. is_over jobs.root q p ≡ true) (writes_of jobs n) = Any-from_list_any (λ q. is_over jobs.root q p) (writes_of jobs n) writes in
      let there : Contains (writes_of jobs n) any.1 = (any.0, any.2, any.3) in
      and_from (is_live jobs n) _ (writer_live n any.1 there)
      (list_any-from_Any (λ q. covers jobs.root q x) (writes_of jobs n) (any.0, any.1, any.2, any.3, over_covers jobs.root any.1 p x any.4 covering))

  -- a file and a name that stand for each other: the file covers the name, and who may read or write the name reads or writes the file
  pub record StandsFor (p : Path) (x : Name) : Type 0 where
    pub covering : Covers jobs.root p x
    pub reads : (n : ℕ) → may_read jobs n x ≡ true → reads_file jobs n p ≡ true
    pub writes : (n : ℕ) → may_write jobs n x ≡ true → writes_file jobs n p ≡ true

  -- so do a file and a name whose covering paths are all over the file
  standing : (p : Path) (x : Name) → Covers jobs.root p x
      → ((n : ℕ) (q : Path) → Contains (reads_of jobs n) q → Covers jobs.root q x → IsOver jobs.root q p)
      → ((n : ℕ) (q : Path) → Contains (writes_of jobs n) q → Covers jobs.root q x → IsOver jobs.root q p) → StandsFor p x
  unfolding may_read may_write
  standing p x covering read_over write_over = record {
    covering = covering;
    reads = λ n may.
        let any : Any (λ q. covers jobs.root q x ≡ true) (reads_of jobs n) = Any-from_list_any (λ q. covers jobs.root q x) (reads_of jobs n) (and_parts (is_live jobs n) _ may).1 in
        list_any-from_Any (λ q. is_over jobs.root q p) (reads_of jobs n) (any.0, any.1, any.2, any.3, read_over n any.1 (any.0, any.2, any.3) any.4);
    writes = λ n may.
        let any : Any (λ q. covers jobs.root q x ≡ true) (writes_of jobs n) = Any-from_list_any (λ q. covers jobs.root q x) (writes_of jobs n) (and_parts (is_live jobs n) _ may).1 in
        list_any-from_Any (λ q. is_over jobs.root q p) (writes_of jobs n) (any.0, any.1, any.2, any.3, write_over n any.1 (any.0, any.2, any.3) any.4);
  }

  -- the file for a name that somebody may read or write
  pub record FileFor (x : Name) : Type 0 where
    pub path : Path
    pub is_file : IsFile jobs path
    pub stands : StandsFor path x

  pub file_for : (files : List Path) (n : ℕ) (x : Name) → ((p : Path) → Contains files p → IsFile jobs p) → ((p : Path) → IsFile jobs p → Contains files p)
      → (may_read jobs n x ≡ true) ⊎ (may_write jobs n x ≡ true) → FileFor x
  unfolding may_read may_write
  file_for files n x down up may =
      let found : (q : Path) → IsFile jobs q → Covers jobs.root q x → FileFor x = λ q is covering. elim (lowest jobs.root files x) [
        | inr none ↦ absurd (none q (up q is) covering)
        | inl l ↦ record {
          path = l.path;
          is_file = down l.path l.there;
          stands = standing l.path x l.covering (λ m r there over. l.least r (up r (m, inl there)) over) (λ m r there over. l.least r (up r (m, inr there)) over);
        }
      ] in
      elim may [
        | inl read ↦
            let any : Any (λ q. covers jobs.root q x ≡ true) (reads_of jobs n) = Any-from_list_any (λ q. covers jobs.root q x) (reads_of jobs n) (and_parts (is_live jobs n) _ read).1 in
            found any.1 (n, inl (any.0, any.2, any.3)) any.4
        | inr written ↦
            let any : Any (λ q. covers jobs.root q x ≡ true) (writes_of jobs n) = Any-from_list_any (λ q. covers jobs.root q x) (writes_of jobs n) (and_parts (is_live jobs n) _ written).1 in
            found any.1 (n, inr (any.0, any.2, any.3)) any.4
      ]

  -- the name for a file: its own, or below a tree one that no node has
  pub record NameFor (p : Path) : Type 0 where
    pub name : Name
    pub stands : StandsFor p name
    pub file : p.tree ≡ false → p.name ≡ name
    pub tree : p.tree ≡ true → (k : ℕ) → k < node_count jobs → name_of jobs k ≡ name → ⊥
    pub unread : p.tree ≡ true → (n : ℕ) (q : Path) → Contains (reads_of jobs n) q → q.name ≡ name → ⊥

  file_named : (p : Path) → IsFile jobs p → 0 < length p.name
  file_named p (n, inl read) = let named = All-contains (λ (q : Path). 1 ≤ length q.name) (reads_of jobs n) p (shape.reads_named n) read in omega (arith, named)
  file_named p (n, inr written) = let named = All-contains (λ (q : Path). 1 ≤ length q.name) (writes_of jobs n) p (shape.writes_named n) written in omega (arith, named)

  pub name_for : (p : Path) → IsFile jobs p → NameFor p
  name_for p is = elim (cases_Bool p.tree) [
    | inr file ↦ record {
      name = p.name;
      stands = standing p p.name (covers_own_name jobs.root p) (λ n q there over. over_file jobs.root q p file over) (λ n q there over. over_file jobs.root q p file over);
      file = λ _. refl;
      tree = λ kind. absurd (both_ways p.tree file kind);
      unread = λ kind. absurd (both_ways p.tree file kind);
    }
    | inl kind ↦
        let k = bytes_in jobs + 1 in
        let some = file_named p is in
        let x = below p.name k in record {
          name = x;
          stands = standing p x (tree_covers jobs.root p x kind (is_below jobs.root p.name k some))
              (λ n q there over. over_tree jobs.root q p k kind some (read_short jobs n q there) over)
              (λ n q there over. over_tree jobs.root q p k kind some (write_short jobs n q there) over);
          file = λ file. absurd (both_ways p.tree file kind);
          tree = λ _ m inside same. name_apart jobs m p.name inside same;
          unread = λ _ n q there same. read_apart jobs n q p.name there same;
        }
  ]
