-- The graph by numbers, from what was collected.
use Rattle.std.proofs.Common.{◌≡◌, ℕ, zero, suc, ◌+◌, ◌<◌, ◌≤◌, List, [], ◌∷◌, ◌++◌, length, get_or, take, drop, sym, ◌∙◌, ap, subst, inl, inr, refl, arith, Some, None, Option, unwrap_or}
use Rattle.std.specs.Prelude.{IsTrue, IsSome, IfNone, IfSome, is_some, nat_eq, map, Vec}
use Rattle.std.specs.Option.{option_to_list}
use Rattle.std.specs.List.{flat_map, sum_by}
use Rattle.std.specs.Global.{Global}
use Rattle.std.proofs.lemmas.Bool.{both_ways, cases_lt}
use Rattle.std.proofs.lemmas.List.{map-append, take-append-drop, get_or_past}
use Rattle.std.proofs.lemmas.List.Sums.{sum_by-cons}
use Rattle.mk_name.specs.Names.{Name, same_name, has, kept, firsts, IsDistinct}
use Rattle.mk_name.proofs.Names.{name_is_exact, nat_is_exact, in_head, in_tail, in_left, in_cases, not_in, kept-append, kept_again, kept_cases, sum_within}
use Rattle.mk_rules.specs.Book.{Book, places_of, prerequisites_of}
use Rattle.mk_graph.specs.Collected.{given_at, HaveNumbers, SourceStands, Collected, IsGraph}
use Rattle.mk_graph.specs.Graph.{count_edges, HasMoreThan}
use Rattle.mk_jobs.specs.Numbered.{name_at, number_of, Stand}
use Rattle.mk_graph.specs.Rows.{row}
use Rattle.mk_graph.specs.Makers.{inferred_source, needs}
use Rattle.mk_graph.specs.Seen.{firsts_of, AllBelow, joined_of, needs_of}
use Rattle.mk_graph.proofs.Bridge.{Numbers, Below, kept_map, node_back}
use Rattle.mk_rules.proofs.Indexes.{flat_map-places_of, places_of-within}
use Rattle.mk_graph.proofs.Rowing.{all_in, firsts_within}
use Rattle.mk_jobs.proofs.Numberings.{has_at, number_at}
use Rattle.mk_graph.proofs.Steps.{In}

abbrev pub Entries : Type 0
Entries = List (Option (Vec ℕ Global))

-- the numbers of an entry that was read
abbrev raw_of : Option (Vec ℕ Global) → List ℕ
raw_of None = []
raw_of (Some v) = v.items

firsts_raw : (o : Option (Vec ℕ Global)) → firsts_of o ≡ firsts nat_eq (raw_of o)
firsts_raw None = refl
firsts_raw (Some v) = refl

raw_stands : (names given : List Name) (o : Option (Vec ℕ Global)) → HaveNumbers names given o → IsSome o → Stand names (raw_of o) given
raw_stands names given None s h = absurd (both_ways _ refl h)
raw_stands names given (Some v) s h = s

-- each list once or all of them once: the same numbers
firsts_each : (f g : ℕ → List ℕ) (front ps : List ℕ) → ((p : ℕ) → In ps p → f p ≡ firsts nat_eq (g p)) → kept nat_eq front (flat_map f ps) ≡ kept nat_eq front (flat_map g ps)
firsts_each f g front [] h = refl
firsts_each f g front (p ∷ ps) h =
    ap (λ xs. kept nat_eq front (xs ++ flat_map f ps)) (h p (in_head nat_eq nat_is_exact p ps))
    ∙ kept-append nat_eq nat_is_exact front (firsts nat_eq (g p)) (flat_map f ps)
    ∙ ap (λ xs. kept nat_eq xs (flat_map f ps)) (kept_again nat_eq nat_is_exact front [] (g p))
    ∙ firsts_each f g (kept nat_eq front (g p)) ps (λ q i. h q (in_tail nat_eq nat_is_exact p q ps i))
    ∙ sym (kept-append nat_eq nat_is_exact front (g p) (flat_map g ps))

map_each : (name : ℕ → Name) (g : ℕ → List ℕ) (f : ℕ → List Name) (ps : List ℕ) → ((p : ℕ) → In ps p → map name (g p) ≡ f p) → map name (flat_map g ps) ≡ flat_map f ps
map_each name g f [] h = refl
map_each name g f (p ∷ ps) h =
    map-append name (g p) (flat_map g ps) ∙ ap (λ xs. xs ++ map name (flat_map g ps)) (h p (in_head nat_eq nat_is_exact p ps)) ∙ ap (λ xs. f p ++ xs) (map_each name g f ps (λ q i. h q (in_tail nat_eq nat_is_exact p q ps i)))

below_each : (g : ℕ → List ℕ) (size : ℕ) (ps : List ℕ) → ((p : ℕ) → In ps p → Below size (g p)) → Below size (flat_map g ps)
below_each g size [] h n i = absurd (both_ways _ refl i)
below_each g size (p ∷ ps) h n i =
    elim (in_cases nat_eq nat_is_exact (g p) (flat_map g ps) n i) [
      | inl l ↦ h p (in_head nat_eq nat_is_exact p ps) n l
      | inr r ↦ below_each g size ps (λ q j. h q (in_tail nat_eq nat_is_exact p q ps j)) n r
    ]

-- names by their numbers, with no edges
alone : (names : List Name) → IsDistinct same_name names → Numbers same_name (λ x. []) [] (name_at names) (length names) (λ n. []) []
alone names d =
    record {
      exact = name_is_exact;
      number = λ x. unwrap_or (number_of names x) 0;
      number_is = λ i h. ap (λ o. unwrap_or o 0) (number_at names i d h);
      rows = λ i h. refl;
      inside = λ i p h j. absurd (both_ways _ refl j);
      starts_are = refl;
      starts_inside = λ g h. absurd (both_ways _ refl h);
    }

-- the rows of a name's rules stand for its prerequisites
joined_stands : (book : Book) (listing goals names : List Name) (entries : Entries) (sources : List (Option ℕ)) (starts : List ℕ) (distinct : List (Vec ℕ Global)) (i : ℕ) → Collected book listing goals names entries sources starts (length names) → ((p : ℕ) → row distinct p ≡ firsts_of (get_or entries p None)) → i < length names → Stand names (joined_of book.rules distinct (name_at names i)) (prerequisites_of book.rules (name_at names i))
joined_stands book listing goals names entries sources starts distinct i c is h =
    record {
      within = λ n j. elim (kept_cases nat_eq nat_is_exact [] (flat_map raw ps) n (subst (λ (xs : List ℕ). In xs n) same j)) [ inl l ↦ absurd (both_ways _ refl l) | inr r ↦ below n r ];
      names_are = ap (map (name_at names)) same
          ∙ kept_map same_name (λ x. []) [] (name_at names) (length names) (λ n. []) [] (alone names c.distinct) [] (flat_map raw ps) (λ n j. absurd (both_ways _ refl j)) below
          ∙ ap (firsts same_name) (map_each (name_at names) raw (given_at book.rules) ps (λ p j. (stands p j).names_are) ∙ flat_map-places_of book.rules (name_at names i));
    }
  where
    ps : List ℕ
    ps = places_of book.rules (name_at names i)

    raw : ℕ → List ℕ
    raw p = raw_of (get_or entries p None)

    same : joined_of book.rules distinct (name_at names i) ≡ firsts nat_eq (flat_map raw ps)
    same = firsts_each (row distinct) raw [] ps (λ p j. is p ∙ firsts_raw (get_or entries p None))

    stands : (p : ℕ) → In ps p → Stand names (raw p) (given_at book.rules p)
    stands p j = raw_stands names (given_at book.rules p) (get_or entries p None) (c.stand p (all_in ps (length book.rules) p (places_of-within book.rules (name_at names i)) j)) (c.done i p h j)

    below : Below (length names) (flat_map raw ps)
    below = below_each raw (length names) ps (λ p j. (stands p j).within)

-- the row of a name stands for what the name needs
pub needs_stand : (book : Book) (listing goals names : List Name) (entries : Entries) (sources : List (Option ℕ)) (starts : List ℕ) (distinct : List (Vec ℕ Global)) (i : ℕ) → Collected book listing goals names entries sources starts (length names) → ((p : ℕ) → row distinct p ≡ firsts_of (get_or entries p None)) → i < length names → Stand names (needs_of book.rules distinct names sources i) (needs book listing (name_at names i))
needs_stand book listing goals names entries sources starts distinct i c is h =
    record {
      within = λ n k. elim (kept_cases nat_eq nat_is_exact (joined_of book.rules distinct (name_at names i)) (option_to_list (get_or sources i None)) n k) [ inl l ↦ front.within n l | inr r ↦ source.within n r ];
      names_are = kept_map same_name (λ x. []) [] (name_at names) (length names) (λ n. []) [] (alone names c.distinct) (joined_of book.rules distinct (name_at names i)) (option_to_list (get_or sources i None)) front.within source.within
          ∙ ap (λ xs. kept same_name xs (map (name_at names) (option_to_list (get_or sources i None)))) front.names_are
          ∙ ap (kept same_name (prerequisites_of book.rules (name_at names i))) source.names_are;
    }
  where
    front : Stand names (joined_of book.rules distinct (name_at names i)) (prerequisites_of book.rules (name_at names i))
    front = joined_stands book listing goals names entries sources starts distinct i c is h

    source : Stand names (option_to_list (get_or sources i None)) (option_to_list (inferred_source book listing (name_at names i)))
    source = c.sources_stand i h

-- the number of a source is in range
pub source_within : (names : List Name) (number : Option ℕ) (source : Option Name) → SourceStands names number source → IfSome number (λ n. n < length names)
source_within names None source s = tt
source_within names (Some n) source s = s.within n (in_head nat_eq nat_is_exact n [])

-- there is a number where there is a source
pub source_reported : (names : List Name) (number : Option ℕ) (source : Option Name) → SourceStands names number source → is_some number ≡ is_some source
source_reported names None None s = refl
source_reported names None (Some x) s = let e = s.names_are in absurd cc
source_reported names (Some n) None s = let e = s.names_are in absurd cc
source_reported names (Some n) (Some x) s = refl

-- what was read is in range
pub entries_below : (book : Book) (listing goals names : List Name) (entries : Entries) (sources : List (Option ℕ)) (starts : List ℕ) (read p : ℕ) → Collected book listing goals names entries sources starts read → AllBelow (length names) (get_or entries p None)
entries_below book listing goals names entries sources starts read p c =
    elim (cases_lt p (length book.rules)) [
      | inl l ↦ go (get_or entries p None) (c.stand p l)
      | inr g ↦ subst (λ (o : Option (Vec ℕ Global)). AllBelow (length names) o) (sym (get_or_past entries p None (let l = c.long in omega arith))) tt
    ]
  where
    go : (o : Option (Vec ℕ Global)) → HaveNumbers names (given_at book.rules p) o → AllBelow (length names) o
    go None s = tt
    go (Some v) s = s.within

pub distinct_below : (book : Book) (listing goals names : List Name) (entries : Entries) (sources : List (Option ℕ)) (starts : List ℕ) (read : ℕ) (distinct : List (Vec ℕ Global)) → Collected book listing goals names entries sources starts read → ((p : ℕ) → row distinct p ≡ firsts_of (get_or entries p None)) → (p n : ℕ) → In (row distinct p) n → n < length names
distinct_below book listing goals names entries sources starts read distinct c is p n h = go (get_or entries p None) (entries_below book listing goals names entries sources starts read p c) (subst (λ (xs : List ℕ). In xs n) (is p) h)
  where
    go : (o : Option (Vec ℕ Global)) → AllBelow (length names) o → In (firsts_of o) n → n < length names
    go None b i = absurd (both_ways _ refl i)
    go (Some v) b i = firsts_within v.items (length names) b n i

pub graph_is : (book : Book) (listing goals names : List Name) (entries : Entries) (sources : List (Option ℕ)) (starts : List ℕ) (distinct rows : List (Vec ℕ Global)) → Collected book listing goals names entries sources starts (length names) → ((p : ℕ) → row distinct p ≡ firsts_of (get_or entries p None)) → length rows ≡ length names → ((i : ℕ) → i < length names → row rows i ≡ needs_of book.rules distinct names sources i) → IsGraph book listing goals names rows starts
graph_is book listing goals names entries sources starts distinct rows c is long at =
    record {
      distinct = c.distinct;
      nodes = c.nodes;
      starts_stand = c.starts_stand;
      long = long;
      rows_stand = λ i h. subst (λ (ns : List ℕ). Stand names ns (needs book listing (name_at names i))) (sym (at i h)) (needs_stand book listing goals names entries sources starts distinct i c is h);
    }

pub numbers_of : (book : Book) (listing goals names : List Name) (rows : List (Vec ℕ Global)) (starts : List ℕ) → IsGraph book listing goals names rows starts → Numbers same_name (needs book listing) goals (name_at names) (length names) (row rows) starts
numbers_of book listing goals names rows starts g =
    record {
      exact = name_is_exact;
      number = λ x. unwrap_or (number_of names x) 0;
      number_is = λ i h. ap (λ o. unwrap_or o 0) (number_at names i g.distinct h);
      rows = λ i h. (g.rows_stand i h).names_are;
      inside = λ i p h j. (g.rows_stand i h).within p j;
      starts_are = g.starts_stand.names_are;
      starts_inside = g.starts_stand.within;
    }

in_take : (k : ℕ) (names : List Name) (x : Name) → IsTrue (has same_name (take k names) x) → IsTrue (has same_name names x)
in_take k names x h = subst (λ (ns : List Name). IsTrue (has same_name ns x)) (take-append-drop k names) (in_left same_name name_is_exact (take k names) (drop k names) x h)

distinct_take : (k : ℕ) (names : List Name) → IsDistinct same_name names → IsDistinct same_name (take k names)
distinct_take zero names d = tt
distinct_take (suc k) [] d = tt
distinct_take (suc k) (x ∷ xs) d = (not_in same_name name_is_exact (take k xs) x (λ h. both_ways _ d.0 (in_take k xs x h)), distinct_take k xs d.1)

pub many_edges : (book : Book) (listing goals names : List Name) (entries : Entries) (sources : List (Option ℕ)) (starts : List ℕ) (k nodes edges : ℕ) → Collected book listing goals names entries sources starts (length names) → edges < count_edges (needs book listing) (take k names) → HasMoreThan same_name (needs book listing) goals nodes edges
many_edges book listing goals names entries sources starts k nodes edges c more = (
  take k names,
  record { distinct = distinct_take k names c.distinct; each = λ x h. c.nodes x (in_take k names x h) },
  inr more,
)

count_all : {X : Type 0} (xs : List X) → sum_by (λ x. 1) xs ≡ length xs
count_all [] = refl
count_all (x ∷ xs) = sum_by-cons (λ y. 1) x xs ∙ ap (λ n. 1 + n) (count_all xs) ∙ omega arith

pub is_small : (book : Book) (listing goals names : List Name) (rows : List (Vec ℕ Global)) (starts : List ℕ) (nodes edges : ℕ) → IsGraph book listing goals names rows starts → length names ≤ nodes → count_edges (needs book listing) names ≤ edges → HasMoreThan same_name (needs book listing) goals nodes edges → ⊥
is_small book listing goals names rows starts nodes edges g few low h =
    elim h.2 [
      | inl more ↦ (let s = sum_within same_name name_is_exact (λ x. 1) h.0 names h.1.distinct within in absurd (omega (arith, s, more, few, count_all h.0, count_all names)))
      | inr more ↦ (let s = sum_within same_name name_is_exact (λ x. length (needs book listing x)) h.0 names h.1.distinct within in absurd (omega (arith, s, more, low)))
    ]
  where
    within : (x : Name) → IsTrue (has same_name h.0 x) → IsTrue (has same_name names x)
    within x i =
        let n = node_back same_name (needs book listing) goals (name_at names) (length names) (row rows) starts (numbers_of book listing goals names rows starts g) x (h.1.each x i) in
        subst (λ (z : Name). IsTrue (has same_name names z)) n.3 (has_at names n.0 n.2)

pub if_none_at : {T : Type 0} (o : Option T) (P : Type 0) → ((x : T) → o ≡ Some x → ⊥) → IfNone o P → P
if_none_at None P n h = h
if_none_at (Some x) P n h = absurd (n x refl)
