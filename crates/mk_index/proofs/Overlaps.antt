-- Where two nodes overlap, by the numbers of paths.
use Rattle.std.proofs.Common.{ℕ, ◌≡◌, ◌<◌, ◌≤◌, ◌⊎◌, List, [], ◌∷◌, length, take, get_or, map, Bool, true, false, Option, Some, None, IfSome, Contains, refl, sym, ap, subst, ◌∙◌, inl, inr, arith, length-take, min, suc}
use Rattle.std.specs.declared.cmp.Ordering.TheVariants.{Less}
use Rattle.std.specs.List.Sorted.{IsStrictlyIncreasing}
use Rattle.std.proofs.lemmas.Bool.{cases_lt, cases_order}
use Rattle.std.proofs.lemmas.List.{get_or-map, length-map, get_or-take, get_or_default, take_all}
use Rattle.std.proofs.lemmas.List.Elements.{Contains-get_or, Contains-append_left, Contains-append_right, Contains-append_cases}
use Rattle.std.proofs.lemmas.Map.Keys.{Less-from_sorted}
use Rattle.mk_index.specs.declared.index.Found.{Found}
use Rattle.mk_path.specs.declared.path.Path.{Path}
use Rattle.mk_path.specs.Paths.{path_cmp, path_at}
use Rattle.mk_index.specs.Ups.{Ups}
use Rattle.mk_index.specs.Uses.{Uses, touched_by, ReachesPath, IsOverlap, IsLeastOverlap, reads_of, writes_of, paths_of, path_of}
use Rattle.mk_index.specs.Index.{Index, IsIndexed, IsWhole, numbers_of}
use Rattle.mk_index.specs.Meets.{AreBelow, Facing, IsFront, IsMet, IsMetIn, IsLeastMet, Stands, facing}
use Rattle.mk_index.proofs.Reaching.{read_within, written_within, read_path, written_path, read_number, written_number, over_path, up_of_paths}
use Rattle.mk_index.proofs.Searching.{in_order}

-- a front of numbers that rise
pub front_all : (numbers : List ℕ) → IsFront numbers None numbers
front_all numbers = record { size = length numbers; is = sym (take_all (length numbers) numbers (omega arith)); all = omega arith; below = tt; rest = tt }

pub front_below : (numbers : List ℕ) (found : Found) (size : ℕ) → AreBelow numbers size found.number
    → ((k : ℕ) → size ≤ k → k < length numbers → found.number ≤ get_or numbers k 0) → IsFront numbers (Some found) (take size numbers)
front_below numbers found size below rest = record { size = size; is = refl; all = tt; below = below; rest = rest }

front_at : (numbers front : List ℕ) (best : Option Found) → IsFront numbers best front → (k : ℕ) → k < length front
    → (k < length numbers) × (get_or front k 0 ≡ get_or numbers k 0)
front_at numbers front best f k below =
    let long : length front ≡ min f.size (length numbers) = ap length f.is ∙ length-take f.size numbers in
    let short : k < min f.size (length numbers) = omega (arith, below, long) in
    (omega (arith, short), ap (λ (ns : List ℕ). get_or ns k 0) f.is ∙ get_or-take f.size numbers k 0 (omega (arith, short)))

-- behind the front no number is less than another that is not above the best so far
behind : (numbers front : List ℕ) (best : Option Found) → IsFront numbers best front → (n k : ℕ) → IfSome best (λ b. n ≤ b.number) → length front ≤ k
    → k < length numbers → n ≤ get_or numbers k 0
behind numbers front None f n k better past below =
    let long : length front ≡ min f.size (length numbers) = ap length f.is ∙ length-take f.size numbers in
    absurd (omega (arith, long, past, below, f.all))
behind numbers front (Some b) f n k better past below =
    let long : length front ≡ min f.size (length numbers) = ap length f.is ∙ length-take f.size numbers in
    let there : f.size ≤ k = omega (arith, long, past, below) in
    omega (arith, better, f.rest k there below)

pub better_than : (numbers front : List ℕ) (best : Option Found) → IsFront numbers best front → (i : ℕ) → i < length front → IfSome best (λ b. get_or front i 0 ≤ b.number)
better_than numbers front None f i below = tt
better_than numbers front (Some b) f i below =
    let long : length front ≡ min f.size (length numbers) = ap length f.is ∙ length-take f.size numbers in
    let inside : i < f.size = omega (arith, long, below) in
    omega (arith, f.below i inside, (front_at numbers front (Some b) f i below).1)

not_less : (ups : Ups) (pairs : List Facing) (best : Option Found) (n o : ℕ) → IsLeastMet ups pairs best → IfSome best (λ b. n ≤ b.number) → IsMetIn ups pairs o → n ≤ o
not_less ups pairs None n o least better met = absurd (least o met)
not_less ups pairs (Some b) n o least better met = omega (arith, better, least.1 o met)

-- numbers that one of theirs may stand above, and the best so far
module _ (ups : Ups) (numbers theirs front : List ℕ) (rise : IsStrictlyIncreasing numbers) where
  -- the first of the front that is met is the least
  pub least_found : (best : Option Found) (pairs : List Facing) (found : Found) (i : ℕ) → IsFront numbers best front → i < length front
      → found.number ≡ get_or front i 0 → IsMet ups theirs (get_or front i 0) → ((k : ℕ) → k < i → IsMet ups theirs (get_or front k 0) → ⊥)
      → IsLeastMet ups pairs best → IsLeastMet ups (record { mine = numbers; theirs = theirs } ∷ pairs) (Some found)
  least_found best pairs found i f below is met first least =
      let here = front_at numbers front best f i below in
      let n = get_or front i 0 in
      let better = better_than numbers front best f i below in
      let at_least : (o : ℕ) → IsMetIn ups (record { mine = numbers; theirs = theirs } ∷ pairs) o → n ≤ o = λ o at. elim at [
        | inl mine ↦
            let k = mine.0.0 in
            let same : get_or numbers k 0 ≡ o = get_or_default numbers k 0 o mine.0.1 ∙ mine.0.2 in
            elim (cases_lt k (length front)) [
              | inl inside ↦ elim (cases_lt k i) [
                | inl before ↦ absurd (first k before (subst (λ q. IsMet ups theirs q) (sym ((front_at numbers front best f k inside).1 ∙ same)) mine.1))
                | inr after ↦ omega (arith, in_order numbers rise i k after mine.0.1, here.1, same)
              ]
              | inr past ↦ omega (arith, behind numbers front best f n k better past mine.0.1, same)
            ]
        | inr others ↦ not_less ups pairs best n o least better others
      ] in (
        inl (subst (Contains numbers) (sym (is ∙ here.1)) (Contains-get_or numbers i 0 here.0), subst (λ q. IsMet ups theirs q) (sym is) met),
        λ o at. omega (arith, is, at_least o at),
      )

  -- where none of the front is met, the best stays
  pub least_kept : (best : Option Found) (pairs : List Facing) → IsFront numbers best front → ((k : ℕ) → k < length front → IsMet ups theirs (get_or front k 0) → ⊥)
      → IsLeastMet ups pairs best → IsLeastMet ups (record { mine = numbers; theirs = theirs } ∷ pairs) best
  least_kept None pairs f none least = λ o at. elim at [
    | inl mine ↦
        let k = mine.0.0 in
        let same : get_or numbers k 0 ≡ o = get_or_default numbers k 0 o mine.0.1 ∙ mine.0.2 in
        elim (cases_lt k (length front)) [
          | inl inside ↦ none k inside (subst (λ q. IsMet ups theirs q) (sym ((front_at numbers front None f k inside).1 ∙ same)) mine.1)
          | inr past ↦
              let far : suc (get_or numbers k 0) ≤ get_or numbers k 0 = behind numbers front None f (suc (get_or numbers k 0)) k tt past mine.0.1 in
              absurd (omega (arith, far))
        ]
    | inr others ↦ least o others
  ]
  least_kept (Some b) pairs f none least = (
    inr least.0,
    λ o at. elim at [
      | inl mine ↦
          let k = mine.0.0 in
          let same : get_or numbers k 0 ≡ o = get_or_default numbers k 0 o mine.0.1 ∙ mine.0.2 in
          elim (cases_lt k (length front)) [
            | inl inside ↦ absurd (none k inside (subst (λ q. IsMet ups theirs q) (sym ((front_at numbers front (Some b) f k inside).1 ∙ same)) mine.1))
            | inr past ↦ omega (arith, behind numbers front (Some b) f b.number k (omega arith) past mine.0.1, same)
          ]
      | inr others ↦ least.1 o others
    ],
  )

-- the overlaps of two nodes, by numbers
module _ (uses : Uses) (index : Index) (whole : IsWhole index) (is : IsIndexed uses index) where
  numbers_within : (n q : ℕ) (written : Bool) → Contains (numbers_of index n written) q → q < length is.paths
  numbers_within n q true there = written_within uses index whole is n q there
  numbers_within n q false there = read_within uses index whole is n q there

  reached : (a b o : ℕ) (mine theirs : Bool) → Contains (numbers_of index b mine) o → IsMet index.ups (numbers_of index a theirs) o
      → ((t : ℕ) → Contains (numbers_of index a theirs) t → (Contains (writes_of uses a) (path_at is.paths t) × Contains (touched_by uses b) (path_at is.paths o))
      ⊎ (Contains (reads_of uses a) (path_at is.paths t) × Contains (writes_of uses b) (path_at is.paths o)))
      → ReachesPath uses a b (path_at is.paths o) × (o < length is.paths)
  reached a b o mine theirs there met touches =
      let inside = numbers_within b o mine there in (
        record {
          upper = path_at is.paths met.upper;
          over = over_path uses index whole is met.upper o (numbers_within a met.upper theirs met.there) inside met.over;
          touches = touches met.upper met.there;
        },
        inside,
      )

  met_reaches : (a b o : ℕ) (pairs : List Facing) → IsMetIn index.ups (facing index a b pairs) o
      → (ReachesPath uses a b (path_at is.paths o) × (o < length is.paths)) ⊎ IsMetIn index.ups pairs o
  met_reaches a b o pairs (inl met) = inl (reached a b o false true met.0 met.1 (λ t there. inl (
    written_path uses index whole is a t there,
    Contains-append_left (reads_of uses b) (writes_of uses b) _ (read_path uses index whole is b o met.0),
  )))
  met_reaches a b o pairs (inr (inl met)) =
      inl (reached a b o true false met.0 met.1 (λ t there. inr (read_path uses index whole is a t there, written_path uses index whole is b o met.0)))
  met_reaches a b o pairs (inr (inr (inl met))) = inl (reached a b o true true met.0 met.1 (λ t there. inl (
    written_path uses index whole is a t there,
    Contains-append_right (reads_of uses b) (writes_of uses b) _ (written_path uses index whole is b o met.0),
  )))
  met_reaches a b o pairs (inr (inr (inr others))) = inr others

  reaches_met : (a b : ℕ) (pairs : List Facing) (x : Path) → ReachesPath uses a b x
      → (o : ℕ) × (path_at is.paths o ≡ x) × IsMetIn index.ups (facing index a b pairs) o
  reaches_met a b pairs x reaches = elim reaches.touches [
    | inl both ↦
        let t = written_number uses index whole is a reaches.upper both.0 in
        elim (Contains-append_cases (reads_of uses b) (writes_of uses b) x both.1) [
          | inl read ↦
              let q = read_number uses index whole is b x read in
              let up = up_of_paths uses index whole is t.number q.number reaches.upper x (written_within uses index whole is a t.number t.there)
              (read_within uses index whole is b q.number q.there) t.is q.is reaches.over in
              (q.number, q.is, inl (q.there, record { upper = t.number; over = up; there = t.there }))
          | inr written ↦
              let q = written_number uses index whole is b x written in
              let up = up_of_paths uses index whole is t.number q.number reaches.upper x (written_within uses index whole is a t.number t.there)
              (written_within uses index whole is b q.number q.there) t.is q.is reaches.over in
              (q.number, q.is, inr (inr (inl (q.there, record { upper = t.number; over = up; there = t.there }))))
        ]
    | inr both ↦
        let t = read_number uses index whole is a reaches.upper both.0 in
        let q = written_number uses index whole is b x both.1 in
        let up = up_of_paths uses index whole is t.number q.number reaches.upper x (read_within uses index whole is a t.number t.there)
        (written_within uses index whole is b q.number q.there) t.is q.is reaches.over in
        (q.number, q.is, inr (inl (q.there, record { upper = t.number; over = up; there = t.there })))
  ]

  overlap_of : (a b o : ℕ) → IsMetIn index.ups (facing index b a (facing index a b [])) o → IsOverlap uses a b (path_at is.paths o) × (o < length is.paths)
  overlap_of a b o met = elim (met_reaches b a o (facing index a b []) met) [
    | inl second ↦ (inr second.0, second.1)
    | inr others ↦ elim (met_reaches a b o [] others) [ inl first ↦ (inl first.0, first.1) | inr none ↦ absurd none ]
  ]

  met_of : (a b : ℕ) (x : Path) → IsOverlap uses a b x → (o : ℕ) × (path_at is.paths o ≡ x) × IsMetIn index.ups (facing index b a (facing index a b [])) o
  met_of a b x (inl first) = let met = reaches_met a b [] x first in (met.0, met.1, inr (inr (inr met.2)))
  met_of a b x (inr second) = reaches_met b a (facing index a b []) x second

  pub no_overlap : (a b : ℕ) (x : Path) → IsLeastMet index.ups (facing index b a (facing index a b [])) None → IsOverlap uses a b x → ⊥
  no_overlap a b x least overlap = let met = met_of a b x overlap in least met.0 met.2

  pub row_is : (n : ℕ) (written : Bool) → map (path_at is.paths) (numbers_of index n written) ≡ paths_of uses n written
  row_is n true = is.writes n
  row_is n false = is.reads n

  pub place_within : (found : Found) → Stands index found → found.place.place < length (paths_of uses found.place.node found.place.written)
  place_within found stands =
      let place = found.place in
      let numbers = numbers_of index place.node place.written in
      omega (arith, stands.within, length-map numbers (path_at is.paths), ap length (row_is place.node place.written))

  pub path_there : (found : Found) → Stands index found → path_of uses found.place ≡ path_at is.paths found.number
  path_there found stands =
      let place = found.place in
      let numbers = numbers_of index place.node place.written in
      let nothing : Path = record { name = []; tree = false } in
      ap (λ (ps : List Path). get_or ps place.place nothing) (sym (row_is place.node place.written))
      ∙ get_or-map (path_at is.paths) numbers place.place 0 nothing stands.within ∙ ap (path_at is.paths) stands.is

  -- paths compare as their numbers
  after : (o n : ℕ) → o ≤ n → n < length is.paths → (path_at is.paths n ≡ path_at is.paths o) ⊎ (path_cmp (path_at is.paths o) (path_at is.paths n) ≡ Less)
  after o n most inside = elim (cases_order o n) [
    | inl same ↦ inl (ap (path_at is.paths) (sym same))
    | inr (inl less) ↦
        let nothing : Path = record { name = []; tree = false } in
        inr (Less-from_sorted path_cmp is.paths o n nothing is.rise less inside)
    | inr (inr more) ↦ absurd (omega (arith, most, more))
  ]

  pub least_overlap : (a b : ℕ) (found : Found) → IsLeastMet index.ups (facing index b a (facing index a b [])) (Some found) → Stands index found
      → IsLeastOverlap uses a b (path_of uses found.place)
  least_overlap a b found least stands =
      let here = overlap_of a b found.number least.0 in
      subst (λ (p : Path). IsLeastOverlap uses a b p) (sym (path_there found stands)) (record {
        overlap = here.0;
        least = λ p overlap.
            let met = met_of a b p overlap in
            subst (λ (x : Path). (x ≡ path_at is.paths found.number) ⊎ (path_cmp (path_at is.paths found.number) x ≡ Less)) met.1
            (after found.number met.0 (least.1 met.0 met.2) (overlap_of a b met.0 met.2).1);
      })
