-- The steps of collecting all that some goals need.
use Rattle.std.proofs.Common.{◌≡◌, ℕ, suc, ◌+◌, ◌<◌, ◌≤◌, Bool, false, List, [], ◌∷◌, ◌++◌, length, get_or, set, take, sym, ◌∙◌, ap, subst, inl, inr, refl, arith, append_assoc, length-append, Some, None, Option, replicate}
use Rattle.std.specs.Option.{option_to_list}
use Rattle.std.specs.Prelude.{not, is_some, IsTrue, IsSome, nat_eq, map, Vec, slice_get}
use Rattle.std.specs.List.{flat_map}
use Rattle.std.specs.Global.{Global}
use Rattle.std.proofs.lemmas.Bool.{both_ways, cases_eq}
use Rattle.std.proofs.lemmas.List.{get_or-set_same, get_or-set_other, length-set, append-nil, take_more, get_or-replicate, length-replicate, get_or_default, get_or_append_left, get_or_push, length_push, get_or-map, length-map, map_more, take-append-le}
use Rattle.std.proofs.lemmas.Option.{get_or_from_slice_get}
use Rattle.mk_name.specs.Names.{Name, same_name, has, kept, firsts, IsDistinct}
use Rattle.mk_name.proofs.Names.{name_is_exact, nat_is_exact, in_left, in_push, in_push_cases, in_joined, kept_has, kept_cases, kept_front, distinct_kept}
use Rattle.mk_rules.specs.Book.{Book, Entry, places_of, prerequisites_of}
use Rattle.mk_graph.specs.Collected.{given_at, HaveNumbers, Reads, Collected, SourceStands}
use Rattle.mk_graph.specs.Makers.{inferred_source, needs}
use Rattle.mk_graph.specs.Graph.{IsNode, AreNodes}
use Rattle.mk_jobs.specs.Numbered.{name_at, Stand}
use Rattle.mk_rules.proofs.Indexes.{flat_map-places_of}
use Rattle.mk_jobs.proofs.Numberings.{kept_grows, stand_more, has_at, name_at_push}

abbrev pub Entries : Type 0
Entries = List (Option (Vec ℕ Global))

stands_grow : (names more given : List Name) (o : Option (Vec ℕ Global)) → HaveNumbers names given o → HaveNumbers (names ++ more) given o
stands_grow names more given None s = tt
stands_grow names more given (Some v) s = stand_more names more v.items given s

stands_set : (names given : List Name) (v : Vec ℕ Global) (o : Option (Vec ℕ Global)) → o ≡ Some v → Stand names v.items given → HaveNumbers names given o
stands_set names given v o e s = subst (λ (p : Option (Vec ℕ Global)). HaveNumbers names given p) (sym e) s

pub reads_none : (book : List Entry) (names : List Name) (entries : Entries) → Reads book [] names entries names entries
reads_none book names entries =
    record {
      more = [];
      grows = sym (append-nil names);
      distinct = λ d. d;
      from = λ x h. inl h;
      stand = λ s. s;
      done = λ p h. absurd (both_ways _ refl h);
      stays = λ p h. h;
      long = refl;
    }

pub reads_skip : (book : List Entry) (places : List ℕ) (p : ℕ) (on : List Name) (oe : Entries) (names : List Name) (entries : Entries) → Reads book places on oe names entries → IsSome (get_or entries p None) → Reads book (places ++ p ∷ []) on oe names entries
reads_skip book places p on oe names entries r s =
    record {
      more = r.more;
      grows = r.grows;
      distinct = r.distinct;
      from = λ x h. elim (r.from x h) [ inl l ↦ inl l | inr q ↦ inr (q.0, in_left nat_eq nat_is_exact places (p ∷ []) q.0 q.1, q.2, q.3) ];
      stand = r.stand;
      done = λ q h. elim (in_push_cases nat_eq nat_is_exact places p q h) [ inl i ↦ r.done q i | inr e ↦ subst (λ (k : ℕ). IsSome (get_or entries k None)) e s ];
      stays = r.stays;
      long = r.long;
    }

pub reads_more : (book : List Entry) (places : List ℕ) (p : ℕ) (on : List Name) (oe : Entries) (names new : List Name) (entries after : Entries) (v : Vec ℕ Global) → Reads book places on oe names entries → length oe ≡ length book → p < length book → new ≡ kept same_name names (given_at book p) → Stand new v.items (given_at book p) → after ≡ set entries p (Some v) → Reads book (places ++ p ∷ []) on oe new after
reads_more book places p on oe names new entries after v r long inside step s is =
    subst (λ (es : Entries). Reads book (places ++ p ∷ []) on oe new es) (sym is) (record {
      more = r.more ++ grown.0;
      grows = step ∙ grown.1 ∙ ap (λ ns. ns ++ grown.0) r.grows ∙ append_assoc on r.more grown.0;
      distinct = λ d. subst (λ (ns : List Name). IsDistinct same_name ns) (sym step) (distinct_kept same_name name_is_exact names (given_at book p) (r.distinct d));
      from = λ x h. elim (kept_cases same_name name_is_exact names (given_at book p) x (subst (λ (ns : List Name). IsTrue (has same_name ns x)) step h)) [
        | inl l ↦ elim (r.from x l) [ inl o ↦ inl o | inr q ↦ inr (q.0, in_left nat_eq nat_is_exact places (p ∷ []) q.0 q.1, q.2, q.3) ]
        | inr g ↦ inr (p, in_push nat_eq nat_is_exact places p, inside, g)
      ];
      stand = λ old q h. elim (cases_eq q p) [
        | inl e ↦ subst (λ (k : ℕ). HaveNumbers new (given_at book k) (get_or (set entries p (Some v)) k None)) (sym e) (stands_set new (given_at book p) v (get_or (set entries p (Some v)) p None) here s)
        | inr n ↦ subst (λ (o : Option (Vec ℕ Global)). HaveNumbers new (given_at book q) o) (sym (get_or-set_other entries p q (Some v) None n))
            (subst (λ (ns : List Name). HaveNumbers ns (given_at book q) (get_or entries q None)) (sym (step ∙ grown.1)) (stands_grow names grown.0 (given_at book q) (get_or entries q None) (r.stand old q h)))
      ];
      done = λ q h. elim (cases_eq q p) [
        | inl e ↦ subst (λ (k : ℕ). IsSome (get_or (set entries p (Some v)) k None)) (sym e) some_here
        | inr n ↦ subst (λ (o : Option (Vec ℕ Global)). IsSome o) (sym (get_or-set_other entries p q (Some v) None n)) (elim (in_push_cases nat_eq nat_is_exact places p q h) [ inl i ↦ r.done q i | inr e ↦ absurd (n (sym e)) ])
      ];
      stays = λ q h. elim (cases_eq q p) [
        | inl e ↦ subst (λ (k : ℕ). IsSome (get_or (set entries p (Some v)) k None)) (sym e) some_here
        | inr n ↦ subst (λ (o : Option (Vec ℕ Global)). IsSome o) (sym (get_or-set_other entries p q (Some v) None n)) (r.stays q h)
      ];
      long = length-set entries p (Some v) ∙ r.long;
    })
  where
    grown : (more : List Name) × (kept same_name names (given_at book p) ≡ names ++ more)
    grown = kept_grows names (given_at book p)

    here : get_or (set entries p (Some v)) p None ≡ Some v
    here = get_or-set_same entries p (Some v) None (let l = r.long in omega arith)

    some_here : IsSome (get_or (set entries p (Some v)) p None)
    some_here = subst (λ (o : Option (Vec ℕ Global)). IsSome o) (sym here) refl

-- what the entry at a place gives is needed by each of its targets
pub given_needed : (book : List Entry) (t : Name) (place : ℕ) (x : Name) → IsTrue (has nat_eq (places_of book t) place) → IsTrue (has same_name (given_at book place) x) → IsTrue (has same_name (prerequisites_of book t) x)
given_needed book t place x p g =
    subst (λ (xs : List Name). IsTrue (has same_name (firsts same_name xs) x)) (flat_map-places_of book t)
    (kept_has same_name name_is_exact [] (flat_map (given_at book) (places_of book t)) x (in_joined same_name name_is_exact nat_eq nat_is_exact (given_at book) (places_of book t) place x p g))

pub step_skip : (book : List Entry) (places : List ℕ) (i : ℕ) (on : List Name) (oe : Entries) (names new : List Name) (entries after : Entries) (o : Option (Vec ℕ Global)) (b : Bool) → i < length places → get_or places i 0 < length entries → is_some (get_or entries (get_or places i 0) o) ≡ not b → b ≡ false → new ≡ names → after ≡ entries → Reads book (take i places) on oe names entries → Reads book (take (i + 1) places) on oe new after
step_skip book places i on oe names new entries after o b h inside some none same_names same_entries r =
    subst (λ (ns : List Name). Reads book (take (i + 1) places) on oe ns after) (sym same_names)
    (subst (λ (es : Entries). Reads book (take (i + 1) places) on oe names es) (sym same_entries)
    (subst (λ (ps : List ℕ). Reads book ps on oe names entries) (sym (take_more places i 0 h))
    (reads_skip book (take i places) (get_or places i 0) on oe names entries r
    (ap is_some (get_or_default entries (get_or places i 0) None o inside) ∙ some ∙ ap not none))))

pub step_more : (book : List Entry) (places : List ℕ) (i : ℕ) (on : List Name) (oe : Entries) (names new made : List Name) (entries after : Entries) (given : List Name) (v : Vec ℕ Global) → i < length places → length oe ≡ length book → get_or places i 0 < length book → slice_get (map (λ e. e.prerequisites) book) (get_or places i 0) ≡ Some given → made ≡ kept same_name names given → Stand made v.items given → new ≡ made → after ≡ set entries (get_or places i 0) (Some v) → Reads book (take i places) on oe names entries → Reads book (take (i + 1) places) on oe new after
step_more book places i on oe names new made entries after given v h long inside gives step s same_names is r =
    subst (λ (ns : List Name). Reads book (take (i + 1) places) on oe ns after) (sym same_names)
    (subst (λ (ps : List ℕ). Reads book ps on oe made after) (sym (take_more places i 0 h))
    (reads_more book (take i places) (get_or places i 0) on oe names made entries after v r long inside
    (step ∙ ap (kept same_name names) is_given)
    (subst (λ (xs : List Name). Stand made v.items xs) is_given s)
    is))
  where
    is_given : given ≡ given_at book (get_or places i 0)
    is_given = sym (get_or_from_slice_get (map (λ e. e.prerequisites) book) (get_or places i 0) given [] gives)

-- what a rule gives is needed by each of its targets
pub given_in_needs : (book : Book) (listing : List Name) (t : Name) (place : ℕ) (x : Name) → IsTrue (has nat_eq (places_of book.rules t) place) → IsTrue (has same_name (given_at book.rules place) x) → IsTrue (has same_name (needs book listing t) x)
given_in_needs book listing t place x p g = kept_front same_name name_is_exact (prerequisites_of book.rules t) (option_to_list (inferred_source book listing t)) x (given_needed book.rules t place x p g)

-- and so is its inferred source
pub source_in_needs : (book : Book) (listing : List Name) (t x : Name) → IsTrue (has same_name (option_to_list (inferred_source book listing t)) x) → IsTrue (has same_name (needs book listing t) x)
source_in_needs book listing t x h = kept_has same_name name_is_exact (prerequisites_of book.rules t) (option_to_list (inferred_source book listing t)) x h

-- nothing is read yet
pub collected_none : (book : Book) (listing goals none names : List Name) (entries : Entries) (sources : List (Option ℕ)) (starts : List ℕ) → none ≡ [] → names ≡ kept same_name none goals → Stand names starts goals → entries ≡ replicate (length book.rules) None → sources ≡ [] → Collected book listing goals names entries sources starts 0
collected_none book listing goals none names entries sources starts e step s is empty =
    subst (λ (es : Entries). Collected book listing goals names es sources starts 0) (sym is) (record {
      distinct = subst (λ (ns : List Name). IsDistinct same_name ns) (sym all) (distinct_kept same_name name_is_exact [] goals tt);
      nodes = λ x h. elim (kept_cases same_name name_is_exact [] goals x (subst (λ (ns : List Name). IsTrue (has same_name ns x)) all h)) [
        | inl l ↦ absurd (both_ways _ refl l)
        | inr g ↦ (x, 0, g, refl)
      ];
      starts_stand = s;
      long = length-replicate (length book.rules) None;
      stand = λ p h. subst (λ (o : Option (Vec ℕ Global)). HaveNumbers names (given_at book.rules p) o) (sym (get_or-replicate (length book.rules) p None None h)) tt;
      done = λ i p h j. absurd (omega arith);
      counted = ap length empty;
      sources_stand = λ i h. absurd (omega arith);
      within = omega arith;
    })
  where
    all : names ≡ kept same_name [] goals
    all = step ∙ ap (λ ns. kept same_name ns goals) e

-- the rules of one more name are read, and its source
pub collected_more : (book : Book) (listing goals names new newer : List Name) (entries after : Entries) (sources counted : List (Option ℕ)) (starts places : List ℕ) (read : ℕ) (name : Name) (source : Option ℕ)
    → Collected book listing goals names entries sources starts read → read < length names → name ≡ name_at names read → places ≡ places_of book.rules name → Reads book.rules places names entries new after
    → newer ≡ kept same_name new (option_to_list (inferred_source book listing (name_at new read))) → SourceStands newer source (inferred_source book listing (name_at new read)) → counted ≡ sources ++ source ∷ []
    → Collected book listing goals newer after counted starts (read + 1)
collected_more book listing goals names new newer entries after sources counted starts places read name source c h is at r step stands pushed =
    record {
      distinct = subst (λ (ns : List Name). IsDistinct same_name ns) (sym step) (distinct_kept same_name name_is_exact new (option_to_list (inferred_source book listing (name_at new read))) (r.distinct c.distinct));
      nodes = λ x i. elim (kept_cases same_name name_is_exact new (option_to_list (inferred_source book listing (name_at new read))) x (subst (λ (ns : List Name). IsTrue (has same_name ns x)) step i)) [
        | inl j ↦ elim (r.from x j) [
          | inl o ↦ c.nodes x o
          | inr g ↦ node_more (name_at names read) x here (given_in_needs book listing (name_at names read) g.0 x (subst (λ (ps : List ℕ). IsTrue (has nat_eq ps g.0)) places_here g.1) g.3)
        ]
        | inr s ↦ node_more (name_at names read) x here (source_in_needs book listing (name_at names read) x (subst (λ (z : Name). IsTrue (has same_name (option_to_list (inferred_source book listing z)) x)) (new_at read h) s))
      ];
      starts_stand = subst (λ (ns : List Name). Stand ns starts goals) (sym whole) (stand_more names (r.more ++ grown.0) starts goals c.starts_stand);
      long = r.long ∙ c.long;
      stand = λ p l. subst (λ (ns : List Name). HaveNumbers ns (given_at book.rules p) (get_or after p None)) (sym (step ∙ grown.1)) (stands_grow new grown.0 (given_at book.rules p) (get_or after p None) (r.stand c.stand p l));
      done = λ i p k j. elim (cases_eq i read) [
        | inl e ↦ r.done p (subst (λ (ps : List ℕ). IsTrue (has nat_eq ps p)) (ap (λ m. places_of book.rules (name_at newer m)) e ∙ ap (places_of book.rules) (same_at read h) ∙ sym places_here) j)
        | inr n ↦ r.stays p (c.done i p (omega arith) (subst (λ (z : Name). IsTrue (has nat_eq (places_of book.rules z) p)) (same_at i (let w = c.within in omega arith)) j))
      ];
      counted = ap length pushed ∙ length_push sources source ∙ ap (λ n. n + 1) c.counted;
      sources_stand = λ i k. subst (λ (os : List (Option ℕ)). SourceStands newer (get_or os i None) (inferred_source book listing (name_at newer i))) (sym pushed) (elim (cases_eq i read) [
        | inl e ↦ subst (λ (m : ℕ). SourceStands newer (get_or (sources ++ source ∷ []) m None) (inferred_source book listing (name_at newer m))) (sym e)
            (subst (λ (o : Option ℕ). SourceStands newer o (inferred_source book listing (name_at newer read))) (sym source_at)
            (subst (λ (z : Name). SourceStands newer source (inferred_source book listing z)) (new_at read h ∙ sym (same_at read h)) stands))
        | inr n ↦
            (let low : i < read = omega arith in
            subst (λ (o : Option ℕ). SourceStands newer o (inferred_source book listing (name_at newer i))) (sym (get_or_append_left sources (source ∷ []) None i (let w = c.counted in omega arith)))
            (subst (λ (z : Name). SourceStands newer (get_or sources i None) (inferred_source book listing z)) (sym (same_at i (let w = c.within in omega arith)))
            (subst (λ (ns : List Name). SourceStands ns (get_or sources i None) (inferred_source book listing (name_at names i))) (sym whole)
            (stand_more names (r.more ++ grown.0) (option_to_list (get_or sources i None)) (option_to_list (inferred_source book listing (name_at names i))) (c.sources_stand i low)))))
      ]);
      within = let l = ap length whole in omega (arith, l, length-append names (r.more ++ grown.0));
    }
  where
    grown : (more : List Name) × (kept same_name new (option_to_list (inferred_source book listing (name_at new read))) ≡ new ++ more)
    grown = kept_grows new (option_to_list (inferred_source book listing (name_at new read)))

    whole : newer ≡ names ++ (r.more ++ grown.0)
    whole = step ∙ grown.1 ∙ ap (λ ns. ns ++ grown.0) r.grows ∙ append_assoc names r.more grown.0

    here : IsNode same_name (needs book listing) goals (name_at names read)
    here = c.nodes (name_at names read) (has_at names read h)

    places_here : places ≡ places_of book.rules (name_at names read)
    places_here = at ∙ ap (places_of book.rules) is

    new_at : (i : ℕ) → i < length names → name_at new i ≡ name_at names i
    new_at i k = ap (λ ns. name_at ns i) r.grows ∙ name_at_push names r.more i k

    same_at : (i : ℕ) → i < length names → name_at newer i ≡ name_at names i
    same_at i k = ap (λ ns. name_at ns i) whole ∙ name_at_push names (r.more ++ grown.0) i k

    source_at : get_or (sources ++ source ∷ []) read None ≡ source
    source_at = get_or_push sources source None read c.counted

    node_more : (a b : Name) → IsNode same_name (needs book listing) goals a → IsTrue (has same_name (needs book listing a) b) → IsNode same_name (needs book listing) goals b
    node_more a b n i = (n.0, suc n.1, n.2, (a, n.3, i))

pub collected_nodes : (book : Book) (listing goals names : List Name) (entries : Entries) (sources : List (Option ℕ)) (starts : List ℕ) (read : ℕ) → Collected book listing goals names entries sources starts read → AreNodes same_name (needs book listing) goals names
collected_nodes book listing goals names entries sources starts read c = record { distinct = c.distinct; each = c.nodes }

pub collected_all : (book : Book) (listing goals names : List Name) (entries : Entries) (sources : List (Option ℕ)) (starts : List ℕ) (read : ℕ) → Collected book listing goals names entries sources starts read → length names ≤ read → Collected book listing goals names entries sources starts (length names)
collected_all book listing goals names entries sources starts read c h = let w = c.within in let e : read ≡ length names = omega arith in subst (λ (n : ℕ). Collected book listing goals names entries sources starts n) e c

-- what is looked up of one more name
pub looked_more : {A : Type 0} (f : Name → A) (names new newer source more : List Name) (rows all : List A) (row : A) (read : ℕ) → read < length names → new ≡ names ++ more → newer ≡ kept same_name new source
    → rows ≡ map f (take read names) → all ≡ rows ++ row ∷ [] → row ≡ f (name_at names read) → all ≡ map f (take (read + 1) newer)
looked_more f names new newer source more rows all row read h grows step so_far pushed at =
    let g = kept_grows new source in
    let whole : newer ≡ names ++ (more ++ g.0) = step ∙ g.1 ∙ ap (λ ns. ns ++ g.0) grows ∙ append_assoc names more g.0 in
    pushed ∙ ap (λ rs. rs ++ row ∷ []) so_far ∙ ap (λ r. map f (take read names) ++ r ∷ []) at
    ∙ sym (map_more f names read [] h)
    ∙ ap (map f) (sym (take-append-le (read + 1) names (more ++ g.0) (omega (arith, h))) ∙ ap (take (read + 1)) (sym whole))

-- what stands beside a name was looked up of it
pub looked_at : {A : Type 0} (f : Name → A) (names : List Name) (rows : List A) (i : ℕ) (d : A) → rows ≡ map f names → i < length names → get_or rows i d ≡ f (name_at names i)
looked_at f names rows i d is h = ap (λ rs. get_or rs i d) is ∙ get_or-map f names i [] d h

-- as much as there are names
pub looked_count : {A : Type 0} (f : Name → A) (names : List Name) (rows : List A) → rows ≡ map f names → length rows ≡ length names
looked_count f names rows is = ap length is ∙ length-map names f
