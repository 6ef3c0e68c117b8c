-- The macros of an ordered table.
use Rattle.std.proofs.Common.{◌≡◌, ℕ, Bool, true, false, cond, List, [], ◌∷◌, Option, Some, None, map, refl, sym, ap, subst, ◌∙◌, ⊎_elim}
use Rattle.std.specs.Prelude.{Vec}
use Rattle.std.specs.Global.{Global}
use Rattle.std.specs.declared.cmp.Ordering.{Ordering}
use Rattle.std.specs.Prelude.{◌++◌, Result, Ok, Err, OnOk, OnErr, MatchOption, IsSome}
use Rattle.std.specs.List.{AllZip}
use Rattle.std.specs.Map.{lookup, set_value, IsKeyTest, AreApart, KeepsOthers}
use Rattle.std.proofs.lemmas.Map.Steps.{set_value_same}
use Rattle.std.specs.BTreeMap.{BTreeMap, IsClone, get_by, is_at, UpdatesBy, WritesThrough}
use Rattle.std.specs.Option.{is_some, option_map_or}
use Rattle.std.specs.Ordering.{is_eq, nat_cmp}
use Rattle.std.specs.Cmp.{eq_by_cmp_equiv}
use Rattle.std.specs.Cmp.Lexicographic.{slice_cmp, bytes_decides, nat_list_cmp_total, nat_list_eq_equiv}
use Rattle.std.proofs.lemmas.Bool.{cases_Bool, cond-true, cond-false}
use Rattle.std.proofs.lemmas.Map.Text.{is_eq-slice_cmp}
use Rattle.mk_name.specs.Names.{Name, same_name}
use Rattle.mk_macro.specs.Macros.{Definition, Entries, defined, defined_unless_given, is_given, macros_of}

abbrev pub Key : Type 0
Key = Vec ℕ Global

abbrev pub compare : Name → Key → Ordering
compare name key = slice_cmp nat_cmp name key.items

abbrev pub shown : {X : Type 0} → List (Key × X) → List (Name × X)
shown entries = map (λ e. (e.0.items, e.1)) entries

-- a look-up in a table is one among the entries
pub look_up_in : {X : Type 0} (entries : List (Key × X)) (name : Name) → lookup (is_at (compare name)) entries ≡ lookup (same_name name) (shown entries)
look_up_in [] name = refl
look_up_in (e ∷ es) name =
    ap (λ b. cond b (Some e.1) (lookup (is_at (compare name)) es)) (is_eq-slice_cmp name e.0.items)
    ∙ ap (λ r. cond (same_name name e.0.items) (Some e.1) r) (look_up_in es name)

pub look_up : (entries : List (Key × Definition)) (name : Name) → lookup (is_at (compare name)) entries ≡ macros_of (shown entries) name
look_up entries name = look_up_in entries name

apart : (bs cs ks : List ℕ) → same_name bs cs ≡ false → same_name bs ks ≡ true → same_name cs ks ≡ false
apart bs cs ks n y = nat_list_eq_equiv.symm cs ks ∙ sym (nat_list_eq_equiv.congr bs ks cs y) ∙ n

apart_in_order : (bs cs ks : List ℕ) → same_name bs cs ≡ false → is_eq (slice_cmp nat_cmp bs ks) ≡ true → is_eq (slice_cmp nat_cmp cs ks) ≡ false
apart_in_order bs cs ks n y = is_eq-slice_cmp cs ks ∙ apart bs cs ks n (sym (is_eq-slice_cmp bs ks) ∙ y)

module _ {K : Type 0} (eq : K → K → Bool) (test : K → Bool) where
  other_entries : {X : Type 0} (old new : List (K × X)) → KeepsOthers eq test old new → (other : K → Bool) → IsKeyTest eq other → AreApart test other → lookup other new ≡ lookup other old
  unfolding KeepsOthers
  other_entries old new h = h

by_bytes : {W : Type 0} (f g : List ℕ → W) (bs : List ℕ) (w : W) → g bs ≡ w → ((cs : List ℕ) → same_name bs cs ≡ false → g cs ≡ f cs) → (cs : List ℕ) → g cs ≡ cond (same_name bs cs) w (f cs)
by_bytes f g bs w here other cs =
    ⊎_elim
    (λ y. subst (λ l. g l ≡ w) ((bytes_decides bs cs).0 y) here ∙ sym (cond-true (same_name bs cs) w (f cs) y))
    (λ n. other cs n ∙ sym (cond-false (same_name bs cs) w (f cs) n))
    (cases_Bool (same_name bs cs))

-- what a table says of each name after a change at one
pub table_set : {X : Type 0} (m n : BTreeMap Key X) (name : Name) (o : Option X) → UpdatesBy (λ x y. slice_cmp nat_cmp x.items y.items) (compare name) m n o
    → (other : Name) → lookup (same_name other) (shown n.entries) ≡ cond (same_name name other) o (lookup (same_name other) (shown m.entries))
table_set m n name o h other =
    sym (look_up_in n.entries other)
    ∙ by_bytes (λ bs. get_by (compare bs) m) (λ bs. get_by (compare bs) n) name o h.1
    (λ cs e. other_entries _ _ _ _ h.3 _ (λ x y. (eq_by_cmp_equiv nat_list_cmp_total).congr cs x.items y.items) (λ k. apart_in_order name cs k.items e)) other
    ∙ ap (λ r. cond (same_name name other) o r) (look_up_in m.entries other)

-- the macros after a change at one name
pub table_restored : (m n : BTreeMap Key Definition) (key name : Name) (o : Option Definition) (es : Entries) → UpdatesBy (λ x y. slice_cmp nat_cmp x.items y.items) (compare key) m n o
    → key ≡ name → shown m.entries ≡ es → macros_of (shown n.entries) ≡ (λ other. cond (same_name name other) o (macros_of es other))
table_restored m n key name o es h same view = λ i other. at_each other i
  where
    at_each : (other : Name) → macros_of (shown n.entries) other ≡ cond (same_name name other) o (macros_of es other)
    at_each other =
        table_set m n key o h other ∙ ap (λ x. cond (same_name x other) o (macros_of (shown m.entries) other)) same
        ∙ ap (λ xs. cond (same_name name other) o (macros_of xs other)) view

pub table_defined : (m n : BTreeMap Key Definition) (name : Name) (d : Definition) → UpdatesBy (λ x y. slice_cmp nat_cmp x.items y.items) (compare name) m n (Some d)
    → macros_of (shown n.entries) ≡ defined (macros_of (shown m.entries)) name d
table_defined m n name d h = λ i other. table_set m n name (Some d) h other i

-- the same where the key has this name, and where the macros stand as a value
pub table_defined_at : (m n : BTreeMap Key Definition) (key name : Name) (d : Definition) (es : Entries) → UpdatesBy (λ x y. slice_cmp nat_cmp x.items y.items) (compare key) m n (Some d)
    → key ≡ name → shown m.entries ≡ es → macros_of (shown n.entries) ≡ defined (macros_of es) name d
table_defined_at m n key name d es h same view =
    table_defined m n key d h ∙ ap (λ x. defined (macros_of (shown m.entries)) x d) same ∙ ap (λ xs. defined (macros_of xs) name d) view

abbrev pub extended_by : Definition → List ℕ → Definition
extended_by old text = record { value = old.value ++ text; manner = old.manner }

found : (m : BTreeMap Key Definition) (name : Name) (o : Option Definition) (es : Entries) → get_by (compare name) m ≡ o → shown m.entries ≡ es → macros_of es name ≡ o
found m name o es is view = ap (λ xs. macros_of xs name) (sym view) ∙ sym (look_up m.entries name) ∙ is

-- a value that was written through a loan
pub extended : {X E : Type 0} (r : Result X E) (m n : BTreeMap Key Definition) (name : Name) (text : List ℕ) (old new : Definition) (es : Entries)
    → OnOk r (new ≡ extended_by old text) → get_by (compare name) m ≡ Some old → WritesThrough (λ x y. slice_cmp nat_cmp x.items y.items) (compare name) m new n → shown m.entries ≡ es
    → OnOk r (MatchOption (macros_of es name) (macros_of (shown n.entries) ≡ macros_of es) (λ o. macros_of (shown n.entries) ≡ defined (macros_of es) name (extended_by o text)))
extended (Err x) m n name text old new es now is writes view = tt
extended (Ok x) m n name text old new es now is writes view =
    rw (found m name (Some old) es is view)
    (table_defined_at m n name name new es (writes.3 (some_from is)) refl view ∙ ap (λ d. defined (macros_of es) name d) now)
  where
    some_from : {o : Option Definition} {d : Definition} → o ≡ Some d → IsSome o
    some_from {o} e = rw e refl

pub kept : {X E : Type 0} (r : Result X E) (m n : BTreeMap Key Definition) (name : Name) (old new : Definition) (es : Entries)
    → OnErr r (new ≡ old) → get_by (compare name) m ≡ Some old → WritesThrough (λ x y. slice_cmp nat_cmp x.items y.items) (compare name) m new n → shown m.entries ≡ es
    → OnErr r (macros_of (shown n.entries) ≡ macros_of es)
kept (Ok x) m n name old new es same is writes view = tt
kept (Err x) m n name old new es same is writes view =
    ap (λ xs. macros_of (shown xs)) (writes.0 ∙ ap (λ d. set_value (is_at (compare name)) m.entries d) same ∙ set_value_same (is_at (compare name)) m.entries old is)
    ∙ ap macros_of view

-- no macro of the name
pub extended_none : (m n : BTreeMap Key Definition) (name : Name) (text : List ℕ) (es : Entries) → get_by (compare name) m ≡ None → n.entries ≡ m.entries → shown m.entries ≡ es
    → MatchOption (macros_of es name) (macros_of (shown n.entries) ≡ macros_of es) (λ o. macros_of (shown n.entries) ≡ defined (macros_of es) name (extended_by o text))
extended_none m n name text es is same view =
    rw (found m name None es is view) (ap (λ xs. macros_of (shown xs)) same ∙ ap macros_of view)

-- whether an operand gave a definition, where there is one
abbrev pub may_stay : Option Definition → Bool
may_stay o = option_map_or (λ old. is_given old.manner) o false

found_at : (m : BTreeMap Key Definition) (key name : Name) (o : Option Definition) (es : Entries) → get_by (compare key) m ≡ o → key ≡ name → shown m.entries ≡ es → macros_of es name ≡ o
found_at m key name o es is same view = found m name o es (subst (λ k. get_by (compare k) m ≡ o) same is) view

-- a definition that is put at a name with none that an operand gave
pub put_at : (m n : BTreeMap Key Definition) (key name : Name) (o : Option Definition) (d : Definition) (es : Entries)
    → UpdatesBy (λ x y. slice_cmp nat_cmp x.items y.items) (compare key) m n (Some d) → key ≡ name → shown m.entries ≡ es → get_by (compare key) m ≡ o → may_stay o ≡ false
    → macros_of (shown n.entries) ≡ defined_unless_given (macros_of es) name d
put_at m n key name o d es h same view is other =
    table_defined_at m n key name d es h same view
    ∙ sym (cond-false (may_stay (macros_of es name)) (macros_of es) (defined (macros_of es) name d) (ap may_stay (found_at m key name o es is same view) ∙ other))

-- one that an operand gave stays
pub stays_at : (m n : BTreeMap Key Definition) (key name : Name) (o : Option Definition) (d : Definition) (es : Entries)
    → n.entries ≡ m.entries → key ≡ name → shown m.entries ≡ es → get_by (compare key) m ≡ o → may_stay o ≡ true
    → macros_of (shown n.entries) ≡ defined_unless_given (macros_of es) name d
stays_at m n key name o d es unchanged same view is given =
    ap (λ xs. macros_of (shown xs)) unchanged ∙ ap macros_of view
    ∙ sym (cond-true (may_stay (macros_of es name)) (macros_of es) (defined (macros_of es) name d) (ap may_stay (found_at m key name o es is same view) ∙ given))

-- whether a table has a name
pub has_name : {X : Type 0} (m : BTreeMap Key X) (key name : Name) (es : List (Name × X)) (b : Bool) → b ≡ is_some (get_by (compare key) m) → key ≡ name → shown m.entries ≡ es → b ≡ is_some (lookup (same_name name) es)
has_name m key name es b is same view =
    is ∙ ap is_some (look_up_in m.entries key) ∙ ap (λ k. is_some (lookup (same_name k) (shown m.entries))) same ∙ ap (λ xs. is_some (lookup (same_name name) xs)) view

-- what a table says after a change, where it stands as a value
pub table_set_at : {X : Type 0} (m n : BTreeMap Key X) (key name : Name) (o : Option X) (es : List (Name × X)) → UpdatesBy (λ x y. slice_cmp nat_cmp x.items y.items) (compare key) m n o
    → key ≡ name → shown m.entries ≡ es → (other : Name) → lookup (same_name other) (shown n.entries) ≡ cond (same_name name other) o (lookup (same_name other) es)
table_set_at m n key name o es h same view other =
    table_set m n key o h other ∙ ap (λ k. cond (same_name k other) o (lookup (same_name other) (shown m.entries))) same
    ∙ ap (λ xs. cond (same_name name other) o (lookup (same_name other) xs)) view

-- a clone of a table has the same entries
module _ (C : Key → Key → Type 0) (D : Definition → Definition → Type 0) (same_key : (x y : Key) → C x y → y.items ≡ x.items) (same_value : (d e : Definition) → D d e → e ≡ d) where
  copied_entries : (es fs : List (Key × Definition)) → AllZip (λ p q. C p.0 q.0 × D p.1 q.1) es fs → shown fs ≡ shown es
  copied_entries [] [] a = refl
  copied_entries [] (y ∷ ys) a = absurd a
  copied_entries (x ∷ xs) [] a = absurd a
  copied_entries (x ∷ xs) (y ∷ ys) a = λ i. (same_key x.0 y.0 a.0.0 i, same_value x.1 y.1 a.0.1 i) ∷ copied_entries xs ys a.1 i

  pub copied : (m n : BTreeMap Key Definition) (es : Entries) → IsClone C D m n → shown m.entries ≡ es → shown n.entries ≡ es
  copied m n es h view = copied_entries m.entries n.entries h ∙ view
