-- What stands under a key of the object that a text is, and of the object that the text means.
use Rattle.std.proofs.Common.{◌≡◌, ℕ, Bool, true, false, cond, List, [], ◌∷◌, Option, None, Some, option_map, option_and_then, refl, sym, ap, ◌∙◌}
use Rattle.std.specs.Prelude.{is_some, unwrap_or}
use Rattle.std.proofs.lemmas.Bool.{both_ways}
use Rattle.std.proofs.lemmas.Option.{option_and_then_some}
use Rattle.std.proofs.lemmas.Slice.Eq.{bytes_eq-Decides}
use Rattle.std.specs.Borrow.{Bor}
use Rattle.std.specs.Str.{bytes_eq}
use Rattle.json.specs.Find as spelled
use Rattle.json.specs.Json as json
use Rattle.json.specs.Value.{items_view, value_view}
use Rattle.json.specs.declared.value.Value.{Value}
use Rattle.serde_json.proofs.Views.{get_member-put, get_member-put_other}
use Rattle.serde_json.specs.Data.{Data, Num, Items, null, object, item, Members, no_members, put}
use Rattle.serde_json.specs.Find.{as_array, as_null, as_number, as_str, get, get_member}
use Rattle.serde_json.specs.Read.{number_of, of_items, of_json, of_members}
use Rattle.mk_json.specs.Documents.{items_in}

-- what is found is what a value means, or where there is none, what was there before
abbrev IsFound : Option json.Json → Option Data → Option Data → Type 0
IsFound None before found = found ≡ before
IsFound (Some j) before found = found ≡ of_json j

first_member : (k l : List ℕ) (j : json.Json) (d : Data) (old : Members) (found : Option Data) (same : Bool) → bytes_eq l k ≡ same → of_json j ≡ Some d
    → found ≡ get_member k (put l d old) → IsFound (cond same (Some j) None) (get_member k old) found
first_member k l j d old found true e is h =
    h ∙ ap (λ key. get_member k (put key d old)) ((bytes_eq-Decides l k).0 e) ∙ get_member-put k d old ∙ sym is
first_member k l j d old found false e is h =
    h ∙ get_member-put_other k l d old (λ same. both_ways _ e ((bytes_eq-Decides l k).1 (sym same)))

later_member : (k l : List ℕ) (j : json.Json) (d : Data) (old : Members) (found : Option Data) (later : Option json.Json) → of_json j ≡ Some d
    → IsFound later (get_member k (put l d old)) found → IsFound (spelled.later_or later (cond (bytes_eq l k) (Some j) None)) (get_member k old) found
later_member k l j d old found None is h = first_member k l j d old found (bytes_eq l k) refl is h
later_member k l j d old found (Some other) is h = h

some_of : {A : Type 0} (x y : A) → Some x ≡ Some y → x ≡ y
some_of x y e = cc

members_found : (k : List ℕ) (ms : json.Members) (old new : Members) → of_members ms old ≡ Some new → IsFound (spelled.get_member k ms) (get_member k old) (get_member k new)
members_found k json.no_members old new e = ap (get_member k) (sym (some_of old new e))
members_found k (json.member l j ms) old new e =
    option_and_then_some (λ d. of_members ms (put l d old)) (of_json j) new e
    (λ d is more. later_member k l j d old (get_member k new) (spelled.get_member k ms) is (members_found k ms (put l d old) new more))

in_object : (k : List ℕ) (ms : json.Members) (meant : Option Members) → of_members ms no_members ≡ meant → is_some (option_map object meant) ≡ true
    → get k (unwrap_or (option_map object meant) null) ≡ option_and_then of_json (spelled.get_member k ms)
in_object k ms None e h = absurd (both_ways _ refl h)
in_object k ms (Some new) e h = by_found (spelled.get_member k ms) (members_found k ms no_members new e)
  where
    by_found : (o : Option json.Json) → IsFound o None (get_member k new) → get_member k new ≡ option_and_then of_json o
    by_found None found = found
    by_found (Some j) found = found

no_key : {A : Type 0} (k : List ℕ) (kind : A → Data) → ((a : A) → get k (kind a) ≡ None) → (meant : Option A) → get k (unwrap_or (option_map kind meant) null) ≡ None
no_key k kind none None = refl
no_key k kind none (Some a) = none a

-- under a key stands what the text's value under it means
pub found : (k : List ℕ) (j : json.Json) → is_some (of_json j) ≡ true → get k (unwrap_or (of_json j) null) ≡ option_and_then of_json (spelled.get k j)
found k json.null h = refl
found k (json.boolean b) h = refl
found k (json.number s) h = no_key k Data.number (λ n. refl) (number_of s)
found k (json.string s) h = refl
found k (json.array js) h = no_key k Data.array (λ items. refl) (of_items js)
found k (json.object ms) h = in_object k ms (of_members ms no_members) refl h

-- what is asked of a value that may mean nothing, where no meaning of its kind has an answer
nothing : {A X : Type 0} (kind : A → Data) (ask : Data → Option X) → ((a : A) → ask (kind a) ≡ None) → (meant : Option A) → option_and_then ask (option_map kind meant) ≡ None
nothing kind ask none None = refl
nothing kind ask none (Some a) = none a

no_text : {A : Type 0} (kind : A → Data) → ((a : A) → as_str (kind a) ≡ None) → (meant : Option A) → as_str (unwrap_or (option_map kind meant) null) ≡ None
no_text kind none None = refl
no_text kind none (Some a) = none a

text_of : (j : json.Json) → option_and_then as_str (of_json j) ≡ spelled.as_str j
text_of json.null = refl
text_of (json.boolean b) = refl
text_of (json.number s) = nothing Data.number as_str (λ n. refl) (number_of s)
text_of (json.string s) = refl
text_of (json.array js) = nothing Data.array as_str (λ items. refl) (of_items js)
text_of (json.object ms) = nothing object as_str (λ inside. refl) (of_members ms no_members)

meant_number : (meant : Option Num) → option_and_then as_number (option_map Data.number meant) ≡ meant
meant_number None = refl
meant_number (Some n) = refl

number_in : (j : json.Json) → option_and_then as_number (of_json j) ≡ option_and_then number_of (spelled.as_number j)
number_in json.null = refl
number_in (json.boolean b) = refl
number_in (json.number s) = meant_number (number_of s)
number_in (json.string s) = refl
number_in (json.array js) = nothing Data.array as_number (λ items. refl) (of_items js)
number_in (json.object ms) = nothing object as_number (λ inside. refl) (of_members ms no_members)

null_in : (j : json.Json) → is_some (option_and_then as_null (of_json j)) ≡ spelled.is_null j
null_in json.null = refl
null_in (json.boolean b) = refl
null_in (json.number s) = ap is_some (nothing Data.number as_null (λ n. refl) (number_of s))
null_in (json.string s) = refl
null_in (json.array js) = ap is_some (nothing Data.array as_null (λ items. refl) (of_items js))
null_in (json.object ms) = ap is_some (nothing object as_null (λ inside. refl) (of_members ms no_members))

-- what is asked of the meaning under a key can be asked of the text's value under it
pub text_found : (k : List ℕ) (j : json.Json) → is_some (of_json j) ≡ true
    → option_and_then as_str (get k (unwrap_or (of_json j) null)) ≡ option_and_then spelled.as_str (spelled.get k j)
text_found k j h = ap (option_and_then as_str) (found k j h) ∙ under (spelled.get k j)
  where
    under : (o : Option json.Json) → option_and_then as_str (option_and_then of_json o) ≡ option_and_then spelled.as_str o
    under None = refl
    under (Some v) = text_of v

pub number_found : (k : List ℕ) (j : json.Json) → is_some (of_json j) ≡ true
    → option_and_then as_number (get k (unwrap_or (of_json j) null)) ≡ option_and_then number_of (option_and_then spelled.as_number (spelled.get k j))
number_found k j h = ap (option_and_then as_number) (found k j h) ∙ under (spelled.get k j)
  where
    under : (o : Option json.Json) → option_and_then as_number (option_and_then of_json o) ≡ option_and_then number_of (option_and_then spelled.as_number o)
    under None = refl
    under (Some v) = number_in v

pub null_found : (k : List ℕ) (j : json.Json) → is_some (of_json j) ≡ true
    → is_some (option_and_then as_null (get k (unwrap_or (of_json j) null))) ≡ unwrap_or (option_map spelled.is_null (spelled.get k j)) false
null_found k j h = ap (λ o. is_some (option_and_then as_null o)) (found k j h) ∙ under (spelled.get k j)
  where
    under : (o : Option json.Json) → is_some (option_and_then as_null (option_and_then of_json o)) ≡ unwrap_or (option_map spelled.is_null o) false
    under None = refl
    under (Some v) = null_in v

-- the text of a value, and of what it means
pub text_meant : (j : json.Json) → spelled.as_str j ≡ as_str (unwrap_or (of_json j) null)
text_meant json.null = refl
text_meant (json.boolean b) = refl
text_meant (json.number s) = sym (no_text Data.number (λ n. refl) (number_of s))
text_meant (json.string s) = refl
text_meant (json.array js) = sym (no_text Data.array (λ items. refl) (of_items js))
text_meant (json.object ms) = sym (no_text object (λ inside. refl) (of_members ms no_members))

some_inside : {A B : Type 0} (f : A → B) (o : Option A) → is_some (option_map f o) ≡ true → is_some o ≡ true
some_inside f None h = h
some_inside f (Some a) h = refl

both_meant : {A B : Type 0} (o : Option A) (f : A → Option B) → is_some (option_and_then f o) ≡ true → (a : A) × (o ≡ Some a) × (is_some (f a) ≡ true)
both_meant None f h = absurd (both_ways _ refl h)
both_meant (Some a) f h = (a, refl, h)

later_meant : (j v : json.Json) (later : Option json.Json) (same : Bool) → is_some (of_json j) ≡ true → (later ≡ Some v → is_some (of_json v) ≡ true)
    → spelled.later_or later (cond same (Some j) None) ≡ Some v → is_some (of_json v) ≡ true
later_meant j v (Some other) same here later e = later e
later_meant j v None true here later e = ap (λ i. is_some (of_json i)) (sym (some_of j v e)) ∙ here
later_meant j v None false here later e = absurd (cc)

-- each value under a key of members that mean something means something
member_meant : (k : List ℕ) (ms : json.Members) (old : Members) (v : json.Json) → is_some (of_members ms old) ≡ true → spelled.get_member k ms ≡ Some v → is_some (of_json v) ≡ true
member_meant k json.no_members old v h e = absurd (cc)
member_meant k (json.member l j ms) old v h e =
    let parts = both_meant (of_json j) (λ d. of_members ms (put l d old)) h in
    later_meant j v (spelled.get_member k ms) (bytes_eq l k) (ap is_some parts.1) (λ is. member_meant k ms (put l parts.0 old) v parts.2 is) e

found_meant : (k : List ℕ) (j v : json.Json) → is_some (of_json j) ≡ true → spelled.get k j ≡ Some v → is_some (of_json v) ≡ true
found_meant k json.null v h e = absurd (cc)
found_meant k (json.boolean b) v h e = absurd (cc)
found_meant k (json.number s) v h e = absurd (cc)
found_meant k (json.string s) v h e = absurd (cc)
found_meant k (json.array js) v h e = absurd (cc)
found_meant k (json.object ms) v h e = member_meant k ms no_members v (some_inside object (of_members ms no_members) h) e

-- what the values of a list mean that means something
items_meant : {A : Type 0} (vs : List (Value A)) (ds : Items) → of_items (items_view vs) ≡ Some ds → items_in vs ≡ ds
items_meant [] ds e = some_of _ ds e
items_meant (v ∷ vs) ds e = by_parts (of_json (value_view v)) (of_items (items_view vs)) e (items_meant vs)
  where
    by_parts : (o : Option Data) (p : Option Items) → option_and_then (λ d. option_map (item d) p) o ≡ Some ds → ((rest : Items) → p ≡ Some rest → items_in vs ≡ rest)
        → item (unwrap_or o null) (items_in vs) ≡ ds
    by_parts None p e rest = absurd (cc)
    by_parts (Some d) None e rest = absurd (cc)
    by_parts (Some d) (Some others) e rest = ap (item d) (rest others refl) ∙ some_of _ ds e

-- the values of a list, and of what it means
list_in : {A : Type 0} (j : json.Json) (o : Option (Bor (List (Value A)))) → is_some (of_json j) ≡ true → option_map (λ items. items_view items.now) o ≡ spelled.as_array j
    → option_map (λ items. items_in items.now) o ≡ option_and_then as_array (of_json j)
list_in json.null None h e = refl
list_in (json.boolean b) None h e = refl
list_in (json.number s) None h e = sym (nothing Data.number as_array (λ n. refl) (number_of s))
list_in (json.string s) None h e = refl
list_in (json.array js) None h e = absurd (cc)
list_in (json.object ms) None h e = sym (nothing object as_array (λ inside. refl) (of_members ms no_members))
list_in json.null (Some items) h e = absurd (cc)
list_in (json.boolean b) (Some items) h e = absurd (cc)
list_in (json.number s) (Some items) h e = absurd (cc)
list_in (json.string s) (Some items) h e = absurd (cc)
list_in (json.object ms) (Some items) h e = absurd (cc)
list_in (json.array js) (Some items) h e = meant (of_items js) refl (some_inside Data.array (of_items js) h)
  where
    meant : (o : Option Items) → of_items js ≡ o → is_some o ≡ true → Some (items_in items.now) ≡ option_and_then as_array (option_map Data.array o)
    meant None is some = absurd (both_ways _ refl some)
    meant (Some ds) is some = ap Some (items_meant items.now ds (ap of_items (some_of _ js e) ∙ is))

no_list : {A : Type 0} (o : Option (Bor (List (Value A)))) → option_map (λ items. items_view items.now) o ≡ None → option_map (λ items. items_in items.now) o ≡ None
no_list None e = refl
no_list (Some items) e = absurd (cc)

list_under : {A : Type 0} (g : Option json.Json) (o : Option (Bor (List (Value A)))) → ((v : json.Json) → g ≡ Some v → is_some (of_json v) ≡ true)
    → option_map (λ items. items_view items.now) o ≡ option_and_then spelled.as_array g → option_map (λ items. items_in items.now) o ≡ option_and_then as_array (option_and_then of_json g)
list_under None o meant e = no_list o e
list_under (Some v) o meant e = list_in v o (meant v refl) e

pub list_found : {A : Type 0} (k : List ℕ) (j : json.Json) (o : Option (Bor (List (Value A)))) → is_some (of_json j) ≡ true
    → option_map (λ items. items_view items.now) o ≡ option_and_then spelled.as_array (spelled.get k j)
    → option_map (λ items. items_in items.now) o ≡ option_and_then as_array (get k (unwrap_or (of_json j) null))
list_found k j o h e = list_under (spelled.get k j) o (λ v is. found_meant k j v h is) e ∙ ap (option_and_then as_array) (sym (found k j h))
