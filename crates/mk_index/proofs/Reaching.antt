-- Who reaches whom, by the numbers of paths.
use Rattle.std.proofs.Common.{ℕ, ◌≡◌, ◌<◌, ◌≤◌, ◌*◌, ◌↔◌, ◌⊎◌, List, length, get_or, map, true, false, All, Contains, sym, ap, subst, ◌∙◌, inl, inr, arith}
use Rattle.std.proofs.lemmas.List.{get_or-map, length-map}
use Rattle.std.proofs.lemmas.List.Elements.{All-contains, Contains-get_or, Contains-append_left, Contains-append_right, Contains-append_cases}
use Rattle.mk_path.specs.declared.path.Path.{Path}
use Rattle.mk_index.specs.Bits.{HasBit}
use Rattle.mk_path.specs.Paths.{is_over, path_at}
use Rattle.mk_index.specs.Table.{row_of}
use Rattle.mk_index.specs.Ups.{IsUp, IsHeldOver, number_count}
use Rattle.mk_index.specs.Uses.{Uses, Reaches, reads_of, writes_of}
use Rattle.mk_index.specs.Index.{Index, AreHolders, IsIndexed, IsWhole}

-- the number of a path in a row
pub record NumberIn (f : ℕ → Path) (row : List ℕ) (x : Path) : Type 0 where
  pub number : ℕ
  pub there : Contains row number
  pub is : f number ≡ x

pub number_in : (f : ℕ → Path) (row : List ℕ) (paths : List Path) (x : Path) → map f row ≡ paths → Contains paths x → NumberIn f row x
number_in f row paths x is there =
    let here = subst (λ (ps : List Path). Contains ps x) (sym is) there in
    let k = here.0 in
    let below : k < length row = omega (arith, here.1, length-map row f) in
    record {
      number = get_or row k 0;
      there = Contains-get_or row k 0 below;
      is = sym (get_or-map f row k 0 x below) ∙ here.2;
    }

pub path_in : (f : ℕ → Path) (row : List ℕ) (paths : List Path) (q : ℕ) → map f row ≡ paths → Contains row q → Contains paths (f q)
path_in f row paths q is there =
    subst (λ (ps : List Path). Contains ps (f q)) is
    (there.0, omega (arith, there.1, length-map row f), get_or-map f row there.0 q (f q) there.1 ∙ ap f there.2)

-- who holds a number over one of b's, by the three ways to reach b
pub data HoldsOver (index : Index) (a b : ℕ) : Type 0 where
  writes_read : IsHeldOver index.ups index.writers (row_of index.reads b) a → HoldsOver index a b
  writes_written : IsHeldOver index.ups index.writers (row_of index.writes b) a → HoldsOver index a b
  reads_written : IsHeldOver index.ups index.readers (row_of index.writes b) a → HoldsOver index a b

module _ (uses : Uses) (index : Index) (whole : IsWhole index) (is : IsIndexed uses index) where
  pub read_within : (n q : ℕ) → Contains (row_of index.reads n) q → q < length is.paths
  read_within n q there = omega (arith, All-contains (λ k. k < number_count index.ups) (row_of index.reads n) q (whole.reads n).within there, is.numbered)

  pub written_within : (n q : ℕ) → Contains (row_of index.writes n) q → q < length is.paths
  written_within n q there = omega (arith, All-contains (λ k. k < number_count index.ups) (row_of index.writes n) q (whole.writes n).within there, is.numbered)

  pub read_path : (n q : ℕ) → Contains (row_of index.reads n) q → Contains (reads_of uses n) (path_at is.paths q)
  read_path n q there = path_in (path_at is.paths) (row_of index.reads n) (reads_of uses n) q (is.reads n) there

  pub written_path : (n q : ℕ) → Contains (row_of index.writes n) q → Contains (writes_of uses n) (path_at is.paths q)
  written_path n q there = path_in (path_at is.paths) (row_of index.writes n) (writes_of uses n) q (is.writes n) there

  pub over_path : (t q : ℕ) → t < length is.paths → q < length is.paths → IsUp index.ups t q → is_over uses.root (path_at is.paths t) (path_at is.paths q) ≡ true
  over_path t q t_within q_within up = (is.over t q t_within q_within).0 up

  pub up_of_paths : (t q : ℕ) (x y : Path) → t < length is.paths → q < length is.paths → path_at is.paths t ≡ x → path_at is.paths q ≡ y
      → is_over uses.root x y ≡ true → IsUp index.ups t q
  up_of_paths t q x y t_within q_within t_is q_is over =
      (is.over t q t_within q_within).1
      (subst (λ (p : Path). is_over uses.root p (path_at is.paths q) ≡ true) (sym t_is) (subst (λ (p : Path). is_over uses.root x p ≡ true) (sym q_is) over))

  reaches_of : (a b : ℕ) → HoldsOver index a b → Reaches uses a b
  reaches_of a b (writes_read held) =
      let writes = (whole.hold true held.upper a).0 held.holds in (
        path_at is.paths held.lower,
        record {
          upper = path_at is.paths held.upper;
          over = over_path held.upper held.lower (written_within a held.upper writes) (read_within b held.lower held.there) held.over;
          touches = inl (written_path a held.upper writes, Contains-append_left (reads_of uses b) (writes_of uses b) _ (read_path b held.lower held.there));
        },
      )
  reaches_of a b (writes_written held) =
      let writes = (whole.hold true held.upper a).0 held.holds in (
        path_at is.paths held.lower,
        record {
          upper = path_at is.paths held.upper;
          over = over_path held.upper held.lower (written_within a held.upper writes) (written_within b held.lower held.there) held.over;
          touches = inl (written_path a held.upper writes, Contains-append_right (reads_of uses b) (writes_of uses b) _ (written_path b held.lower held.there));
        },
      )
  reaches_of a b (reads_written held) =
      let reads = (whole.hold false held.upper a).0 held.holds in (
        path_at is.paths held.lower,
        record {
          upper = path_at is.paths held.upper;
          over = over_path held.upper held.lower (read_within a held.upper reads) (written_within b held.lower held.there) held.over;
          touches = inr (read_path a held.upper reads, written_path b held.lower held.there);
        },
      )

  pub read_number : (n : ℕ) (x : Path) → Contains (reads_of uses n) x → NumberIn (path_at is.paths) (row_of index.reads n) x
  read_number n x there = number_in (path_at is.paths) (row_of index.reads n) (reads_of uses n) x (is.reads n) there

  pub written_number : (n : ℕ) (x : Path) → Contains (writes_of uses n) x → NumberIn (path_at is.paths) (row_of index.writes n) x
  written_number n x there = number_in (path_at is.paths) (row_of index.writes n) (writes_of uses n) x (is.writes n) there

  holds_of : (a b : ℕ) → Reaches uses a b → HoldsOver index a b
  holds_of a b reaches =
      let lower = reaches.0 in
      let at = reaches.1 in
      elim at.touches [
        | inl both ↦
            let t = written_number a at.upper both.0 in
            let holds = (whole.hold true t.number a).1 t.there in
            elim (Contains-append_cases (reads_of uses b) (writes_of uses b) lower both.1) [
              | inl read ↦
                  let q = read_number b lower read in
                  let up = up_of_paths t.number q.number at.upper lower (written_within a t.number t.there) (read_within b q.number q.there) t.is q.is at.over in
                  writes_read (record { lower = q.number; there = q.there; upper = t.number; over = up; holds = holds })
              | inr written ↦
                  let q = written_number b lower written in
                  let up = up_of_paths t.number q.number at.upper lower (written_within a t.number t.there) (written_within b q.number q.there) t.is q.is at.over in
                  writes_written (record { lower = q.number; there = q.there; upper = t.number; over = up; holds = holds })
            ]
        | inr both ↦
            let t = read_number a at.upper both.0 in
            let q = written_number b lower both.1 in
            let up = up_of_paths t.number q.number at.upper lower (read_within a t.number t.there) (written_within b q.number q.there) t.is q.is at.over in
            reads_written (record { lower = q.number; there = q.there; upper = t.number; over = up; holds = (whole.hold false t.number a).1 t.there })
      ]

  -- what three rounds of marks leave
  pub marked_is : (a b : ℕ) (old first second new : List ℕ)
      → HasBit first a ↔ (HasBit old a ⊎ IsHeldOver index.ups index.writers (row_of index.reads b) a)
      → HasBit second a ↔ (HasBit first a ⊎ IsHeldOver index.ups index.writers (row_of index.writes b) a)
      → HasBit new a ↔ (HasBit second a ⊎ IsHeldOver index.ups index.readers (row_of index.writes b) a)
      → HasBit new a ↔ (HasBit old a ⊎ Reaches uses a b)
  marked_is a b old first second new one two three = (
    λ has. elim (three.0 has) [
      | inl has ↦ elim (two.0 has) [
        | inl has ↦ elim (one.0 has) [ inl has ↦ inl has | inr held ↦ inr (reaches_of a b (writes_read held)) ]
        | inr held ↦ inr (reaches_of a b (writes_written held))
      ]
      | inr held ↦ inr (reaches_of a b (reads_written held))
    ],
    λ has. elim has [
      | inl has ↦ three.1 (inl (two.1 (inl (one.1 (inl has)))))
      | inr reaches ↦ elim (holds_of a b reaches) [
        | writes_read held ↦ three.1 (inl (two.1 (inl (one.1 (inr held)))))
        | writes_written held ↦ three.1 (inl (two.1 (inr held)))
        | reads_written held ↦ three.1 (inr held)
      ]
    ],
  )

-- there is room for the nodes that hold numbers
pub holders_room : (index : Index) (holders : List (List ℕ)) (words t : ℕ) → AreHolders index.ups (length index.reads) holders
    → length index.reads ≤ 64 * words → All (λ n. n < 64 * words) (row_of holders t)
holders_room index holders words t are room = λ k d at. omega (arith, are.within t k d at, room)
