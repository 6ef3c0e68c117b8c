-- Tables of places.
use Rattle.std.proofs.Common.{◌≡◌, ℕ, ◌+◌, ◌<◌, arith, Bool, true, false, cond, List, [], ◌∷◌, ◌++◌, sym, ◌∙◌, ap, subst, refl, inl, inr, append_assoc, get_or, take, Option, Some, None}
use Rattle.std.specs.Prelude.{IsTrue, OnOk, Result, Ok, Err, ◌||◌, ◌&&◌, ◌==◌, nat_eq, length}
use Rattle.std.specs.BTreeMap.{get, is_at}
use Rattle.std.specs.Map.{lookup}
use Rattle.std.specs.List.{All, list_any}
use Rattle.std.specs.Option.{is_some, option_map_or}
use Rattle.std.specs.Cmp.Lexicographic.{slice_cmp, texts_ties}
use Rattle.std.specs.Ordering.{is_eq, nat_cmp}
use Rattle.std.specs.Global.{Global}
use Rattle.std.specs.declared.collections.BTreeSet.{BTreeSet}
use Rattle.std.proofs.lemmas.Bool.{and_from, and_parts, both_ways, cases_Bool, cond-false, cond-true, eqb-true, false_from_ne_true, or_cases, or_left, or_right}
use Rattle.std.proofs.Math.Bool.{or-false}
use Rattle.std.proofs.lemmas.List.{append-nil, take_more}
use Rattle.std.proofs.lemmas.List.Folds.{list_any-append}
use Rattle.std.proofs.lemmas.Option.{same_Some}
use Rattle.mk_name.specs.Names.{Name, same_name, has}
use Rattle.mk_name.proofs.Names.{name_is_exact, nat_is_exact, in_left, in_push, in_push_cases}
use Rattle.mk_rules.specs.Book.{Book, has_inference, targets_of}
use Rattle.mk_rules.specs.Special.{is_suffix}
use Rattle.mk_rules.proofs.Indexes.{has-targets_of}
use Rattle.mk_jobs.specs.Numbered.{name_at}
use Rattle.mk_graph.specs.Makers.{is_there}
use Rattle.mk_graph.specs.Numbers.{IsLeast, in_set}
use Rattle.mk_graph.specs.Places.{AreNamePlaces, ArePlaces, AreRulePlaces, IsBlank, IsLeastSuffix, IsOld, NotesPlace, Table, before_last_period, is_key, place_of, stands_beside}
use Rattle.mk_graph.specs.SourceIndex.{names_there}
use Rattle.mk_graph.specs.Suffix.{from_last_period}
use Rattle.mk_graph.proofs.Cuts.{front_of, last_of, parts_join, suffix_some}
use Rattle.mk_graph.proofs.Placing.{least_suffix, place_is, same_place, suffix_at, suffix_in}

abbrev pub AllSuffixes : List Name → Type 0
AllSuffixes suffixes = All (λ s. is_suffix s ≡ true) suffixes

is_some_place : (o : Option ℕ) (p : ℕ) → option_map_or (λ place. nat_eq place p) o false ≡ true → o ≡ Some p
is_some_place None p h = absurd (both_ways _ refl h)
is_some_place (Some q) p h = ap Some (nat_is_exact.equal q p h)

some_place_is : (o : Option ℕ) (p : ℕ) → o ≡ Some p → option_map_or (λ place. nat_eq place p) o false ≡ true
some_place_is o p e = ap (λ q. option_map_or (λ place. nat_eq place p) q false) e ∙ nat_is_exact.itself p

-- a table of some names with what one more name gives
noted : (joined : Name → Name → Name) (IsKind : Name → Type 0) (suffixes names : List Name) (before after : Table) (x front s : Name) → x ≡ joined front s
    → ((n r : Name) (p : ℕ) → IsKind n → place_of suffixes r ≡ Some p → x ≡ joined n r → (front ≡ n) × (s ≡ r))
    → NotesPlace suffixes front s before after → ArePlaces joined IsKind suffixes names before → ArePlaces joined IsKind suffixes (names ++ x ∷ []) after
noted joined IsKind suffixes names before after x front s is unique notes old = record {
  sound = λ n p h. elim (or_cases (stands_beside before n p) _ (sym (notes n p) ∙ h)) [
    | inl was ↦ let r = old.sound n p was in (r.0, r.1, in_left same_name name_is_exact names (x ∷ []) (joined n r.0) r.2)
    | inr new ↦
        let both = and_parts (same_name front n) _ new in
        let same : x ≡ joined n s = is ∙ ap (λ f. joined f s) (name_is_exact.equal front n both.0) in
        (s, is_some_place _ p both.1, subst (λ (y : Name). IsTrue (has same_name (names ++ x ∷ []) y)) same (in_push same_name name_is_exact names x))
  ];
  complete = λ n r p kind at h. notes n p ∙ elim (in_push_cases same_name name_is_exact names x (joined n r) h) [
    | inl was ↦ or_left _ _ (old.complete n r p kind at was)
    | inr e ↦
        let u = unique n r p kind at e in
        or_right (stands_beside before n p) _
        (and_from _ _ (subst (λ (y : Name). same_name front y ≡ true) u.0 (name_is_exact.itself front))
        (some_place_is _ p (ap (place_of suffixes) u.1 ∙ at)))
  ];
}

-- an inference rule of one suffix
pub single_noted : (suffixes rules : List Name) (before after : Table) (rule : Name) → AllSuffixes suffixes → before_last_period rule ≡ []
    → NotesPlace suffixes [] (from_last_period rule) before after → AreRulePlaces suffixes rules before → AreRulePlaces suffixes (rules ++ rule ∷ []) after
single_noted suffixes rules before after rule all none notes old =
    noted (λ o n. n ++ o) (IsOld suffixes) suffixes rules before after rule [] (from_last_period rule)
    (sym (parts_join rule) ∙ ap (λ f. f ++ from_last_period rule) none ∙ sym (append-nil (from_last_period rule)))
    (λ n r p kind at e. by n r (suffix_at suffixes r p all at) kind e)
    notes old
  where
    by : (n r : Name) → is_suffix r ≡ true → IsOld suffixes n → rule ≡ r ++ n → ([] ≡ n) × (from_last_period rule ≡ r)
    by n r s (inl e) is =
        let here : rule ≡ r = is ∙ ap (λ m. r ++ m) e ∙ append-nil r in
        (sym e, ap from_last_period here ∙ last_of [] r s)
    by n r s (inr h) is =
        absurd (suffix_some r s (sym (front_of r n (suffix_in suffixes n all h)) ∙ ap before_last_period (sym is) ∙ none))

-- one of two suffixes
pub double_noted : (suffixes rules : List Name) (before after : Table) (rule : Name) → AllSuffixes suffixes → (before_last_period rule ≡ [] → ⊥)
    → NotesPlace suffixes (from_last_period rule) (before_last_period rule) before after → AreRulePlaces suffixes rules before → AreRulePlaces suffixes (rules ++ rule ∷ []) after
double_noted suffixes rules before after rule all some notes old =
    noted (λ o n. n ++ o) (IsOld suffixes) suffixes rules before after rule (from_last_period rule) (before_last_period rule)
    (sym (parts_join rule))
    (λ n r p kind at e. by n r (suffix_at suffixes r p all at) kind e)
    notes old
  where
    by : (n r : Name) → is_suffix r ≡ true → IsOld suffixes n → rule ≡ r ++ n → (from_last_period rule ≡ n) × (before_last_period rule ≡ r)
    by n r s (inl e) is =
        let here : rule ≡ r = is ∙ ap (λ m. r ++ m) e ∙ append-nil r in
        absurd (some (ap before_last_period here ∙ front_of [] r s))
    by n r s (inr h) is =
        let k = suffix_in suffixes n all h in
        (ap from_last_period is ∙ last_of r n k, ap before_last_period is ∙ front_of r n k)

-- a name that exists, where its stem is a name of the table
pub known_noted : (suffixes names : List Name) (before after : Table) (name s front : Name) (place : ℕ) → AllSuffixes suffixes → s ≡ from_last_period name → front ≡ before_last_period name → place_of suffixes s ≡ Some place
    → ((n : Name) → is_key after n ≡ is_key before n) → ((n : Name) (p : ℕ) → stands_beside after n p ≡ (stands_beside before n p || (same_name front n && is_key before n && nat_eq place p)))
    → AreNamePlaces suffixes names before → AreNamePlaces suffixes (names ++ name ∷ []) after
known_noted suffixes names before after name s front place all last first at keys stands old = record {
  sound = λ n p h. elim (or_cases (stands_beside before n p) _ (sym (stands n p) ∙ h)) [
    | inl was ↦ let r = old.sound n p was in (r.0, r.1, in_left same_name name_is_exact names (name ∷ []) (n ++ r.0) r.2)
    | inr new ↦
        let both = and_parts (same_name front n && is_key before n) _ new in
        let here = and_parts (same_name front n) _ both.0 in
        let joined : name ≡ n ++ s = sym (parts_join name) ∙ ap (λ f. f ++ from_last_period name) (sym first) ∙ ap (λ l. front ++ l) (sym last) ∙ ap (λ f. f ++ s) (name_is_exact.equal front n here.0) in
        (s, at ∙ ap Some (nat_is_exact.equal place p both.1), subst (λ (y : Name). IsTrue (has same_name (names ++ name ∷ []) y)) joined (in_push same_name name_is_exact names name))
  ];
  complete = λ n r p key there h. stands n p ∙ elim (in_push_cases same_name name_is_exact names name (n ++ r) h) [
    | inl was ↦ or_left _ _ (old.complete n r p (sym (keys n) ∙ key) there was)
    | inr e ↦
        let k = suffix_at suffixes r p all there in
        let stem : front ≡ n = first ∙ ap before_last_period e ∙ front_of n r k in
        let same : s ≡ r = last ∙ ap from_last_period e ∙ last_of n r k in
        let place-is : Some place ≡ Some p = sym at ∙ ap (place_of suffixes) same ∙ there in
        or_right (stands_beside before n p) _
        (and_from _ _ (and_from _ _ (subst (λ (y : Name). same_name front y ≡ true) stem (name_is_exact.itself front)) (sym (keys n) ∙ key))
        (subst (λ (q : ℕ). nat_eq place q ≡ true) (same_Some place p place-is) (nat_is_exact.itself place)))
  ];
}

-- a name whose suffix is not in the list
pub other_noted : (suffixes names : List Name) (table : Table) (name s : Name) → AllSuffixes suffixes → s ≡ from_last_period name → place_of suffixes s ≡ None → AreNamePlaces suffixes names table → AreNamePlaces suffixes (names ++ name ∷ []) table
other_noted suffixes names table name s all last none old = record {
  sound = λ n p h. let r = old.sound n p h in (r.0, r.1, in_left same_name name_is_exact names (name ∷ []) (n ++ r.0) r.2);
  complete = λ n r p key there h. elim (in_push_cases same_name name_is_exact names name (n ++ r) h) [
    | inl was ↦ old.complete n r p key there was
    | inr e ↦
        let same : s ≡ r = last ∙ ap from_last_period e ∙ last_of n r (suffix_at suffixes r p all there) in
        let clash : ◌≡◌ {A = Option ℕ} None (Some p) = sym none ∙ ap (place_of suffixes) same ∙ there in
        absurd cc
  ];
}

equal_tests : (a b : Bool) → (a ≡ true → b ≡ true) → (b ≡ true → a ≡ true) → a ≡ b
equal_tests a b there back =
    elim (cases_Bool a) [
      | inl t ↦ t ∙ sym (there t)
      | inr f ↦ f ∙ sym (false_from_ne_true b (λ h. both_ways a f (back h)))
    ]

-- what stands beside a name is what the names say
beside_is : (joined : Name → Name → Name) (IsKind : Name → Type 0) (suffixes names : List Name) (table : Table) (n s : Name) (p : ℕ) → ArePlaces joined IsKind suffixes names table → IsKind n
    → place_of suffixes s ≡ Some p → stands_beside table n p ≡ has same_name names (joined n s)
beside_is joined IsKind suffixes names table n s p t kind at =
    equal_tests _ _
    (λ h. let r = t.sound n p h in subst (λ (y : Name). IsTrue (has same_name names (joined n y))) (same_place suffixes r.0 s p r.1 at) r.2)
    (λ h. t.complete n s p kind at h)

pub none_beside : (table : Table) (n : Name) (p : ℕ) → get (slice_cmp nat_cmp) table n ≡ None → stands_beside table n p ≡ false
none_beside table n p e = ap (λ o. option_map_or (λ places. in_set places p) o false) e

pub set_beside : (table : Table) (n : Name) (places : BTreeSet ℕ Global) (p : ℕ) → get (slice_cmp nat_cmp) table n ≡ Some places → stands_beside table n p ≡ in_set places p
set_beside table n places p e = ap (λ o. option_map_or (λ q. in_set q p) o false) e

there_is : (book : Book) (listing : List Name) (t : Name) → has same_name (names_there book listing) t ≡ is_there book listing t
there_is book listing t = list_any-append (λ y. same_name y t) listing (targets_of book.rules) ∙ ap (λ b. has same_name listing t || b) (has-targets_of book.rules t)

-- whether a suffix serves
abbrev pub serves : Book → List Name → Name → Name → Name → Bool
serves book listing stem old s = has_inference book (s ++ old) && is_there book listing (stem ++ s)

no_rules : (b c : Bool) → b ≡ false → (b && c) ≡ false
no_rules b c e = ap (λ x. x && c) e

module _ (book : Book) (listing : List Name) (rules : Table) (stem old : Name) (r : AreRulePlaces book.suffixes book.inference rules) (o : IsOld book.suffixes old) where
  rule_is : (s : Name) (p : ℕ) → place_of book.suffixes s ≡ Some p → stands_beside rules old p ≡ has_inference book (s ++ old)
  rule_is s p at = beside_is (λ x n. n ++ x) (IsOld book.suffixes) book.suffixes book.inference rules old s p r o at

  -- no rule leads to the old suffix
  pub least_no_rule : get (slice_cmp nat_cmp) rules old ≡ None → IsLeastSuffix book.suffixes (serves book listing stem old) None
  least_no_rule e = λ s p at. no_rules _ _ (sym (rule_is s p at) ∙ none_beside rules old p e)

  -- the names are looked for one by one
  pub least_looked : (places : BTreeSet ℕ Global) (found : Option ℕ) → get (slice_cmp nat_cmp) rules old ≡ Some places
      → IsLeast (λ p. in_set places p && is_there book listing (stem ++ name_at book.suffixes p)) found → IsLeastSuffix book.suffixes (serves book listing stem old) found
  least_looked places found e h =
      least_suffix book.suffixes (serves book listing stem old) _
      (λ s p at. ap (λ b. b && is_there book listing (stem ++ name_at book.suffixes p)) (sym (set_beside rules old places p e) ∙ rule_is s p at)
      ∙ ap (λ n. has_inference book (s ++ old) && is_there book listing (stem ++ n)) (place_is book.suffixes s p at).1)
      (λ p t. let q = r.sound old p (set_beside rules old places p e ∙ (and_parts (in_set places p) _ t).0) in (q.0, q.1))
      found h

  pub places_within : (places : BTreeSet ℕ Global) (p : ℕ) → get (slice_cmp nat_cmp) rules old ≡ Some places → IsTrue (in_set places p) → p < length book.suffixes
  places_within places p e h = let q = r.sound old p (set_beside rules old places p e ∙ h) in (place_is book.suffixes q.0 p q.1).0

  module _ (names : Table) (t : AreNamePlaces book.suffixes (names_there book listing) names) where
    name_is : IsTrue (is_key names stem) → (s : Name) (p : ℕ) → place_of book.suffixes s ≡ Some p → stands_beside names stem p ≡ is_there book listing (stem ++ s)
    name_is key s p at = beside_is (λ x n. x ++ n) (λ x. IsTrue (is_key names x)) book.suffixes (names_there book listing) names stem s p t key at ∙ there_is book listing (stem ++ s)

    -- the rules and the names have a place in common
    pub least_common : (places there : BTreeSet ℕ Global) (found : Option ℕ) → get (slice_cmp nat_cmp) rules old ≡ Some places → get (slice_cmp nat_cmp) names stem ≡ Some there
        → IsLeast (λ p. in_set places p && in_set there p) found → IsLeastSuffix book.suffixes (serves book listing stem old) found
    least_common places there found e f h =
        least_suffix book.suffixes (serves book listing stem old) _
        (λ s p at. ap (λ b. b && in_set there p) (sym (set_beside rules old places p e) ∙ rule_is s p at)
        ∙ ap (λ b. has_inference book (s ++ old) && b) (sym (set_beside names stem there p f) ∙ name_is (ap is_some f) s p at))
        (λ p t. let q = r.sound old p (set_beside rules old places p e ∙ (and_parts (in_set places p) _ t).0) in (q.0, q.1))
        found h

-- a place put beside a name
pub put_is : (old removed new : Table) (name : Name) (before after : BTreeSet ℕ Global) (place : ℕ)
    → ((q : Name) → get (slice_cmp nat_cmp) removed q ≡ cond (is_eq (slice_cmp nat_cmp name q)) None (get (slice_cmp nat_cmp) old q))
    → ((q : Name) → get (slice_cmp nat_cmp) new q ≡ cond (is_eq (slice_cmp nat_cmp name q)) (Some after) (get (slice_cmp nat_cmp) removed q))
    → ((p : ℕ) → in_set before p ≡ stands_beside old name p) → ((p : ℕ) → in_set after p ≡ (in_set before p || nat_eq place p))
    → (n : Name) (p : ℕ) → stands_beside new n p ≡ (stands_beside old n p || (same_name name n && nat_eq place p))
put_is old removed new name before after place taken put was more n p =
    elim (cases_Bool (same_name name n)) [
      | inl t ↦
          set_beside new n after p (put n ∙ cond-true _ (Some after) _ (sym (texts_ties name n) ∙ t)) ∙ more p
          ∙ ap (λ b. b || nat_eq place p) (was p ∙ ap (λ m. stands_beside old m p) (name_is_exact.equal name n t))
          ∙ ap (λ b. stands_beside old n p || (b && nat_eq place p)) (sym t)
      | inr f ↦
          let apart : is_eq (slice_cmp nat_cmp name n) ≡ false = sym (texts_ties name n) ∙ f in
          ap (λ o. option_map_or (λ places. in_set places p) o false) (put n ∙ cond-false _ (Some after) _ apart ∙ taken n ∙ cond-false _ None _ apart)
          ∙ sym (or-false (stands_beside old n p)) ∙ ap (λ b. stands_beside old n p || (b && nat_eq place p)) (sym f)
    ]

-- what a note of a rule does, by the parts that were read
pub single_read : (suffixes rules : List Name) (before after : Table) (rule front last : Name) → AllSuffixes suffixes → front ≡ before_last_period rule → last ≡ from_last_period rule → (length front == 0) ≡ true
    → NotesPlace suffixes [] last before after → AreRulePlaces suffixes rules before → AreRulePlaces suffixes (rules ++ rule ∷ []) after
single_read suffixes rules before after rule front last all f l none notes =
    single_noted suffixes rules before after rule all (sym f ∙ empty front none) (subst (λ (s : Name). NotesPlace suffixes [] s before after) l notes)
  where
    empty : (bs : Name) → (length bs == 0) ≡ true → bs ≡ []
    empty [] h = refl
    empty (b ∷ bs) h = absurd (omega (arith, eqb-true (length (b ∷ bs)) 0 h))

pub double_read : (suffixes rules : List Name) (before after : Table) (rule front last : Name) → AllSuffixes suffixes → front ≡ before_last_period rule → last ≡ from_last_period rule → (length front == 0) ≡ false
    → NotesPlace suffixes last front before after → AreRulePlaces suffixes rules before → AreRulePlaces suffixes (rules ++ rule ∷ []) after
double_read suffixes rules before after rule front last all f l some notes =
    double_noted suffixes rules before after rule all (λ e. both_ways _ some (ap (λ bs. length bs == 0) (f ∙ e)))
    (subst (λ (s : Name). NotesPlace suffixes s (before_last_period rule) before after) l (subst (λ (s : Name). NotesPlace suffixes last s before after) f notes))

-- a table of nothing
pub blank : (table : Table) → table.entries ≡ [] → IsBlank table
blank table e n p = none_beside table n p (ap (λ es. lookup (is_at (slice_cmp nat_cmp n)) es) e)

pub none_are : (joined : Name → Name → Name) (IsKind : Name → Type 0) (suffixes : List Name) (table : Table) → IsBlank table → ArePlaces joined IsKind suffixes [] table
none_are joined IsKind suffixes table e = record {
  sound = λ n p h. absurd (both_ways _ (e n p) h);
  complete = λ n s p kind at h. absurd (both_ways _ refl h);
}

-- a table of no names says all of them
pub no_names : (suffixes names : List Name) (table : Table) → table.entries ≡ [] → AreNamePlaces suffixes names table
no_names suffixes names table e = record {
  sound = λ n p h. absurd (both_ways _ (blank table e n p) h);
  complete = λ n s p key at h. absurd (both_ways _ (ap (λ es. is_some (lookup (is_at (slice_cmp nat_cmp n)) es)) e) key);
}

-- one more name without places
pub blank_put : (old new : Table) (name : Name) (places : BTreeSet ℕ Global) → places.keys ≡ [] → ((q : Name) → get (slice_cmp nat_cmp) new q ≡ cond (is_eq (slice_cmp nat_cmp name q)) (Some places) (get (slice_cmp nat_cmp) old q))
    → IsBlank old → IsBlank new
blank_put old new name places e put was n p =
    elim (cases_Bool (is_eq (slice_cmp nat_cmp name n))) [
      | inl t ↦ set_beside new n places p (put n ∙ cond-true _ (Some places) _ t) ∙ ap (λ ks. list_any (is_at (nat_cmp p)) ks) e
      | inr f ↦ ap (λ o. option_map_or (λ q. in_set q p) o false) (put n ∙ cond-false _ (Some places) _ f) ∙ was n p
    ]

-- a place put beside a name of the table
module _ (old removed new : Table) (name : Name) (before after : BTreeSet ℕ Global) (place : ℕ) (is : get (slice_cmp nat_cmp) old name ≡ Some before)
    (taken : (q : Name) → get (slice_cmp nat_cmp) removed q ≡ cond (is_eq (slice_cmp nat_cmp name q)) None (get (slice_cmp nat_cmp) old q))
    (put : (q : Name) → get (slice_cmp nat_cmp) new q ≡ cond (is_eq (slice_cmp nat_cmp name q)) (Some after) (get (slice_cmp nat_cmp) removed q)) where
  other_key : (n : Name) → same_name name n ≡ false → get (slice_cmp nat_cmp) new n ≡ get (slice_cmp nat_cmp) old n
  other_key n f =
      let apart : is_eq (slice_cmp nat_cmp name n) ≡ false = sym (texts_ties name n) ∙ f in
      put n ∙ cond-false _ (Some after) _ apart ∙ taken n ∙ cond-false _ None _ apart

  same_key : (n : Name) → same_name name n ≡ true → is_key old n ≡ true
  same_key n t = ap (is_key old) (sym (name_is_exact.equal name n t)) ∙ ap is_some is

  pub known_keys : (n : Name) → is_key new n ≡ is_key old n
  known_keys n =
      elim (cases_Bool (same_name name n)) [
        | inl t ↦ ap is_some (put n ∙ cond-true _ (Some after) _ (sym (texts_ties name n) ∙ t)) ∙ sym (same_key n t)
        | inr f ↦ ap is_some (other_key n f)
      ]

  pub known_places : ((p : ℕ) → in_set after p ≡ (in_set before p || nat_eq place p)) → (n : Name) (p : ℕ) → stands_beside new n p ≡ (stands_beside old n p || (same_name name n && is_key old n && nat_eq place p))
  known_places more n p =
      elim (cases_Bool (same_name name n)) [
        | inl t ↦
            set_beside new n after p (put n ∙ cond-true _ (Some after) _ (sym (texts_ties name n) ∙ t)) ∙ more p
            ∙ ap (λ b. b || nat_eq place p) (sym (set_beside old name before p is) ∙ ap (λ m. stands_beside old m p) (name_is_exact.equal name n t))
            ∙ ap (λ b. stands_beside old n p || (b && nat_eq place p)) (sym (and_from _ _ t (same_key n t)))
        | inr f ↦
            ap (λ o. option_map_or (λ places. in_set places p) o false) (other_key n f)
            ∙ sym (or-false (stands_beside old n p)) ∙ ap (λ b. stands_beside old n p || (b && is_key old n && nat_eq place p)) (sym f)
      ]

-- no place is put beside a name that the table has not
pub unknown_keys : (old removed : Table) → removed.entries ≡ old.entries → (n : Name) → is_key removed n ≡ is_key old n
unknown_keys old removed e n = ap (λ es. is_some (lookup (is_at (slice_cmp nat_cmp n)) es)) e

pub unknown_places : (old removed : Table) (name : Name) (place : ℕ) → removed.entries ≡ old.entries → get (slice_cmp nat_cmp) old name ≡ None → (n : Name) (p : ℕ)
    → stands_beside removed n p ≡ (stands_beside old n p || (same_name name n && is_key old n && nat_eq place p))
unknown_places old removed name place e none n p =
    ap (λ es. option_map_or (λ places. in_set places p) (lookup (is_at (slice_cmp nat_cmp n)) es) false) e
    ∙ sym (or-false (stands_beside old n p)) ∙ ap (λ b. stands_beside old n p || b) (sym nothing)
  where
    nothing : (same_name name n && is_key old n && nat_eq place p) ≡ false
    nothing =
        elim (cases_Bool (same_name name n)) [
          | inl t ↦ ap (λ b. same_name name n && b && nat_eq place p) (ap (is_key old) (sym (name_is_exact.equal name n t)) ∙ ap is_some none) ∙ ap (λ b. b && false && nat_eq place p) t
          | inr f ↦ ap (λ b. b && is_key old n && nat_eq place p) f
        ]

-- one more of some names is noted
pub rules_more : (suffixes rules : List Name) (i : ℕ) (rule : Name) (table : Table) → i < length rules → rule ≡ get_or rules i rule → AreRulePlaces suffixes (take i rules ++ rule ∷ []) table → AreRulePlaces suffixes (take (i + 1) rules) table
rules_more suffixes rules i rule table within is h =
    subst (λ (rs : List Name). AreRulePlaces suffixes rs table) (sym (take_more rules i rule within ∙ ap (λ x. take i rules ++ x ∷ []) (sym is))) h

pub targets_more : (suffixes names targets : List Name) (n : ℕ) (target : Name) (table : Table) → n < length targets → target ≡ get_or targets n [] → AreNamePlaces suffixes ((names ++ take n targets) ++ target ∷ []) table
    → AreNamePlaces suffixes (names ++ take (n + 1) targets) table
targets_more suffixes names targets n target table within is h =
    subst (λ (ns : List Name). AreNamePlaces suffixes ns table)
    (append_assoc names (take n targets) (target ∷ []) ∙ ap (λ ns. names ++ ns) (sym (take_more targets n [] within ∙ ap (λ x. take n targets ++ x ∷ []) (sym is))))
    h

-- what follows from two facts of a call that succeeds
pub on_ok_both : {T E P Q R : Type 0} (r : Result T E) → (P → Q → R) → OnOk r P → OnOk r Q → OnOk r R
on_ok_both (Ok x) f p q = f p q
on_ok_both (Err e) f p q = tt
