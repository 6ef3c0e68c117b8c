-- Which values mean something, item by item and member by member; and what texts of numbers mean.
use Rattle.std.proofs.Common.{◌≡◌, ◌+◌, ◌<◌, ℕ, Bool, true, false, List, ◌∷◌, Option, None, Some, option_and_then, ℤ, Float, length, drop, get_or, refl, sym, ap, ◌∙◌}
use Rattle.std.proofs.lemmas.List.{drop_more}
use Rattle.std.specs.Borrow.{Bor}
use Rattle.std.specs.Prelude.{◌==◌, is_some, slice_index, if◌then◌else◌}
use Rattle.json.specs.Json as json
use Rattle.json.specs.Value.{members_view, value_view}
use Rattle.json.specs.declared.value.Value.{Value}
use Rattle.fast_float.specs.Text.{Parts, scan}
use Rattle.serde_json.specs.Data.{Data, negative, float, Members, no_members, put}
use Rattle.serde_json.specs.Find.{as_u64}
use Rattle.serde_json.specs.Read.{number_from, number_of, of_json, of_members}

both : (o : Option Data) (one other : Data → Option Members) → ((d : Data) → is_some (one d) ≡ is_some (other d))
    → is_some (option_and_then one o) ≡ is_some (option_and_then other o)
both None one other h = refl
both (Some d) one other h = h d

-- whether members mean something does not depend on those before them
same_behind : (ms : json.Members) (one other : Members) → is_some (of_members ms one) ≡ is_some (of_members ms other)
same_behind json.no_members one other = refl
same_behind (json.member k j ms) one other =
    both (of_json j) (λ d. of_members ms (put k d one)) (λ d. of_members ms (put k d other)) (λ d. same_behind ms (put k d one) (put k d other))

next : (k : List ℕ) (ms : json.Members) (o : Option Data) → is_some o ≡ true
    → is_some (option_and_then (λ d. of_members ms (put k d no_members)) o) ≡ is_some (of_members ms no_members)
next k ms None h = absurd (cc)
next k ms (Some d) h = same_behind ms (put k d no_members) no_members

pub passed_member : {A : Type 0} (ms : List (Bor (List ℕ) × Value A)) (i : ℕ) (m : Bor (List ℕ) × Value A) → i < length ms → m ≡ get_or ms i m → is_some (of_json (value_view m.1)) ≡ true
    → is_some (of_members (members_view (drop i ms)) no_members) ≡ is_some (of_members (members_view (drop (i + 1) ms)) no_members)
passed_member ms i m within is meant =
    let here : drop i ms ≡ m ∷ drop (i + 1) ms = drop_more ms i m within ∙ ap (λ x. x ∷ drop (i + 1) ms) (sym is) in
    ap (λ xs. is_some (of_members (members_view xs) no_members)) here
    ∙ next m.0.now (members_view (drop (i + 1) ms)) (of_json (value_view m.1)) meant

by_tests : (whole finite : Bool) (z : ℤ) (x : Float) → option_and_then as_u64 (if whole then Some (negative z) else (if finite then Some (float x) else None)) ≡ None
by_tests true finite z x = refl
by_tests false true z x = refl
by_tests false false z x = refl

-- a text begins with a minus, or not: which numeral it is read as
pub minus_read : (s : List ℕ) → true ≡ (slice_index s 0 == 45) → number_from true (scan (drop 1 s)) ≡ number_of s
unfolding number_of
minus_read s minus = let signed : (slice_index s 0 == 45) ≡ true = sym minus in rw signed

pub plain_read : (s : List ℕ) → false ≡ (slice_index s 0 == 45) → number_from false (scan s) ≡ number_of s
unfolding number_of
plain_read s plain = let unsigned : (slice_index s 0 == 45) ≡ false = sym plain in rw unsigned

-- no number behind a minus is unsigned
pub none_below : (p : Parts) → option_and_then as_u64 (number_from true p) ≡ None
none_below p = by_tests _ _ _ _
