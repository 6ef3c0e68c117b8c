-- Nodes clash where one reaches the other.
use Rattle.std.proofs.Common.{ℕ, ◌≡◌, ◌≢◌, ◌<◌, ◌⊎◌, true, List, Contains, sym, subst, inl, inr, arith}
use Rattle.std.proofs.lemmas.Bool.{and_from, and_parts, cases_Bool, or_cases, or_left, or_right}
use Rattle.std.proofs.lemmas.List.Elements.{Contains-append_cases, Contains-append_left, Contains-append_right}
use Rattle.std.proofs.lemmas.List.Folds.{Any-from_list_any, list_any-from_Any}
use Rattle.mk_name.specs.Names.{Name}
use Rattle.mk_path.specs.declared.path.Path.{Path}
use Rattle.mk_path.specs.Paths.{covered, covers}
use Rattle.mk_index.specs.Uses.{IsOverlap, Reaches, touched_by}
use Rattle.mk_path.proofs.Overs.{covers_own_name, over_covers_name, paths_of_one_name}
use Rattle.mk_jobs.specs.Jobs.{Clash, ClashOn, Jobs, is_live, may_read, may_touch, may_write, node_count, reads_of, writes_of}
use Rattle.mk_jobs.specs.Reaching.{ClashIsReach, uses_of}
use Rattle.mk_jobs.specs.Shape.{IsWellFormed}
use Rattle.mk_jobs.proofs.JobsLemmas.{live_node}

-- a path of a node's reads or writes
abbrev IsOf : Jobs → ℕ → Path → Type 0
IsOf jobs n p = Contains (reads_of jobs n) p ⊎ Contains (writes_of jobs n) p

-- a path of some that covers a name
abbrev Covering : Jobs → (Path → Type 0) → Name → Type 0
Covering jobs P x = (p : Path) × P p × (covers jobs.root p x ≡ true)

one_covers : (jobs : Jobs) (paths : List Path) (x : Name) → covered jobs.root paths x ≡ true → Covering jobs (Contains paths) x
one_covers jobs paths x some =
    let found = Any-from_list_any (λ p. covers jobs.root p x) paths some in
    (found.1, (found.0, found.2, found.3), found.4)

covers_all : (jobs : Jobs) (paths : List Path) (x : Name) (p : Path) → Contains paths p → covers jobs.root p x ≡ true → covered jobs.root paths x ≡ true
covers_all jobs paths x p there over = list_any-from_Any (λ q. covers jobs.root q x) paths (there.0, p, there.1, there.2, over)

-- who may write a name has a path for it, and who may touch it
writes_by : (jobs : Jobs) (n : ℕ) (x : Name) → may_write jobs n x ≡ true → Covering jobs (Contains (writes_of jobs n)) x
unfolding may_write
writes_by jobs n x may = one_covers jobs (writes_of jobs n) x (and_parts _ _ may).1

reads_by : (jobs : Jobs) (n : ℕ) (x : Name) → may_read jobs n x ≡ true → Covering jobs (Contains (reads_of jobs n)) x
unfolding may_read
reads_by jobs n x may = one_covers jobs (reads_of jobs n) x (and_parts _ _ may).1

touches_by : (jobs : Jobs) (n : ℕ) (x : Name) → may_touch jobs n x ≡ true → Covering jobs (IsOf jobs n) x
touches_by jobs n x may = elim (or_cases (may_read jobs n x) _ may) [
  | inl reads ↦ let by = reads_by jobs n x reads in (by.0, inl by.1, by.2)
  | inr writes ↦ let by = writes_by jobs n x writes in (by.0, inr by.1, by.2)
]

-- what a node touches, as a list
touched : (jobs : Jobs) (n : ℕ) (p : Path) → IsOf jobs n p → Contains (touched_by (uses_of jobs) n) p
unfolding reads_of writes_of
touched jobs n p (inl reads) = Contains-append_left (reads_of jobs n) (writes_of jobs n) p reads
touched jobs n p (inr writes) = Contains-append_right (reads_of jobs n) (writes_of jobs n) p writes

-- a path that a writes and one that b touches, which cover one name
reach_of : (jobs : Jobs) (a b : ℕ) (x : Name) → Covering jobs (Contains (writes_of jobs a)) x → Covering jobs (IsOf jobs b) x
    → Reaches (uses_of jobs) a b ⊎ Reaches (uses_of jobs) b a
unfolding reads_of writes_of
reach_of jobs a b x mine theirs =
    elim (paths_of_one_name jobs.root mine.0 theirs.0 x mine.2 theirs.2) [
      | inl over ↦ inl (theirs.0, record { upper = mine.0; over = over; touches = inl (mine.1, touched jobs b theirs.0 theirs.1) })
      | inr over ↦ inr (
        mine.0,
        record {
          upper = theirs.0;
          over = over;
          touches = elim theirs.1 [
            | inl reads ↦ inr (reads, mine.1)
            | inr writes ↦ inl (writes, touched jobs a mine.0 (inr mine.1))
          ];
        },
      )
    ]

turned : {A B : Type 0} → A ⊎ B → B ⊎ A
turned (inl a) = inr a
turned (inr b) = inl b

reach : (jobs : Jobs) (a b : ℕ) (x : Name) → ClashOn jobs a b x → Reaches (uses_of jobs) a b ⊎ Reaches (uses_of jobs) b a
reach jobs a b x clash = elim (or_cases (may_write jobs a x) _ clash.written) [
  | inl left ↦ reach_of jobs a b x (writes_by jobs a x left) (touches_by jobs b x clash.second)
  | inr right ↦ turned (reach_of jobs b a x (writes_by jobs b x right) (touches_by jobs a x clash.first))
]

-- whoever has a path is live
reader_is_live : (jobs : Jobs) (n : ℕ) (p : Path) → IsWellFormed jobs → Contains (reads_of jobs n) p → is_live jobs n ≡ true
reader_is_live jobs n p shape there = elim (cases_Bool (is_live jobs n)) [
  | inl live ↦ live
  | inr not_live ↦
      let nothing = subst (λ (ps : List Path). Contains ps p) (shape.no_reads n not_live) there in
      absurd (omega (arith, nothing.1))
]

writer_is_live : (jobs : Jobs) (n : ℕ) (p : Path) → IsWellFormed jobs → Contains (writes_of jobs n) p → is_live jobs n ≡ true
writer_is_live jobs n p shape there = elim (cases_Bool (is_live jobs n)) [
  | inl live ↦ live
  | inr not_live ↦
      let nothing = subst (λ (ps : List Path). Contains ps p) (shape.no_writes n not_live) there in
      absurd (omega (arith, nothing.1))
]

-- and may read or write what the path covers
reads_name : (jobs : Jobs) (n : ℕ) (p : Path) (x : Name) → IsWellFormed jobs → Contains (reads_of jobs n) p → covers jobs.root p x ≡ true → may_read jobs n x ≡ true
unfolding may_read
reads_name jobs n p x shape there over = and_from _ _ (reader_is_live jobs n p shape there) (covers_all jobs (reads_of jobs n) x p there over)

writes_name : (jobs : Jobs) (n : ℕ) (p : Path) (x : Name) → IsWellFormed jobs → Contains (writes_of jobs n) p → covers jobs.root p x ≡ true → may_write jobs n x ≡ true
unfolding may_write
writes_name jobs n p x shape there over = and_from _ _ (writer_is_live jobs n p shape there) (covers_all jobs (writes_of jobs n) x p there over)

-- whoever reaches another node clashes with it on the name of the lower path
clash_of : (jobs : Jobs) (a b : ℕ) → IsWellFormed jobs → a ≢ b → Reaches (uses_of jobs) a b → Clash jobs a b
unfolding reads_of writes_of
clash_of jobs a b shape other reaches =
    let x = reaches.0.name in
    let by = reaches.1 in
    let upper = over_covers_name jobs.root by.upper reaches.0 by.over in
    let lower = covers_own_name jobs.root reaches.0 in
    elim by.touches [
      | inl writes ↦
          let first = writes_name jobs a by.upper x shape writes.0 upper in (
            x,
            record {
              different = other;
              first = or_right (may_read jobs a x) _ first;
              second = elim (Contains-append_cases (reads_of jobs b) (writes_of jobs b) reaches.0 writes.1) [
                | inl reads ↦ or_left (may_read jobs b x) _ (reads_name jobs b reaches.0 x shape reads lower)
                | inr also ↦ or_right (may_read jobs b x) _ (writes_name jobs b reaches.0 x shape also lower)
              ];
              written = or_left (may_write jobs a x) _ first;
            },
          )
      | inr reads ↦
          let second = writes_name jobs b reaches.0 x shape reads.1 lower in (
            x,
            record {
              different = other;
              first = or_left (may_read jobs a x) _ (reads_name jobs a by.upper x shape reads.0 upper);
              second = or_right (may_read jobs b x) _ second;
              written = or_right (may_write jobs a x) _ second;
            },
          )
    ]

pub turned_clash : {jobs : Jobs} {a b : ℕ} → Clash jobs b a → Clash jobs a b
turned_clash {jobs} {a} {b} clash = (
  clash.0,
  record {
    different = λ same. clash.1.different (sym same);
    first = clash.1.second;
    second = clash.1.first;
    written = elim (or_cases (may_write jobs b clash.0) _ clash.1.written) [
      | inl right ↦ or_right (may_write jobs a clash.0) _ right
      | inr left ↦ or_left (may_write jobs a clash.0) _ left
    ];
  },
)

pub clash_is_reach : ClashIsReach
clash_is_reach jobs a b shape = (
  λ clash. (clash.1.different, reach jobs a b clash.0 clash.1),
  λ reaches. elim reaches.1 [
    | inl over ↦ clash_of jobs a b shape reaches.0 over
    | inr over ↦ turned_clash (clash_of jobs b a shape (λ same. reaches.0 (sym same)) over)
  ],
)

-- whoever reaches a node is a node
pub reach_node : (jobs : Jobs) (a b : ℕ) → IsWellFormed jobs → Reaches (uses_of jobs) a b → a < node_count jobs
unfolding reads_of writes_of
reach_node jobs a b shape reaches = elim reaches.1.touches [
  | inl writes ↦ live_node jobs a (writer_is_live jobs a reaches.1.upper shape writes.0)
  | inr reads ↦ live_node jobs a (reader_is_live jobs a reaches.1.upper shape reads.0)
]

-- two nodes with an overlap clash, and others do not
pub overlap_clashes : (jobs : Jobs) (a b : ℕ) (o : Path) → IsWellFormed jobs → a ≢ b → IsOverlap (uses_of jobs) a b o → Clash jobs a b
overlap_clashes jobs a b o shape other (inl reaches) = (clash_is_reach jobs a b shape).1 (other, inl (o, reaches))
overlap_clashes jobs a b o shape other (inr reaches) = (clash_is_reach jobs a b shape).1 (other, inr (o, reaches))

pub no_overlap_apart : (jobs : Jobs) (a b : ℕ) → IsWellFormed jobs → ((o : Path) → IsOverlap (uses_of jobs) a b o → ⊥) → Clash jobs a b → ⊥
no_overlap_apart jobs a b shape none clash = elim ((clash_is_reach jobs a b shape).0 clash).1 [
  | inl reaches ↦ none reaches.0 (inl reaches.1)
  | inr reaches ↦ none reaches.0 (inr reaches.1)
]
