-- Which keys an object has, as it is spelled and as it is meant; and what a line says that is read.
use Rattle.std.proofs.Common.{◌≡◌, ℕ, Bool, true, false, cond, List, Option, None, Some, option_map, option_and_then, refl, sym, ap, subst, ◌∙◌}
use Rattle.std.specs.Prelude.{is_some, unwrap_or}
use Rattle.std.proofs.lemmas.Bool.{both_ways}
use Rattle.std.specs.Str.{bytes_eq}
use Rattle.json.specs.Find as spelled
use Rattle.json.specs.Json as json
use Rattle.serde_json.specs.Data.{null, object, Members, no_members, put}
use Rattle.serde_json.specs.Find.{get}
use Rattle.serde_json.specs.Read.{of_json, of_members}
use Rattle.mk_json.proofs.Finding.{found}
use Rattle.mk_foot.specs.Json.{value_of}
use Rattle.mk_task.proofs.Apart.{map_some, said_plain, then_some}
use Rattle.mk_task.specs.Lines as tasks
use Rattle.mk_due.specs.Good.{IsNamedLine}
use Rattle.mk_due.specs.Lines.{Due, DueLine, due_in, line_in, line_of}

some_of : {A : Type 0} (x y : A) → Some x ≡ Some y → x ≡ y
some_of x y e = cc

some_inside : {A B : Type 0} (f : A → B) (o : Option A) → is_some (option_map f o) ≡ true → is_some o ≡ true
some_inside f None h = h
some_inside f (Some a) h = refl

both_meant : {A B : Type 0} (o : Option A) (f : A → Option B) → is_some (option_and_then f o) ≡ true → (a : A) × (o ≡ Some a) × (is_some (f a) ≡ true)
both_meant None f h = absurd (both_ways _ refl h)
both_meant (Some a) f h = (a, refl, h)

later_meant : (j v : json.Json) (later : Option json.Json) (same : Bool) → is_some (of_json j) ≡ true → (later ≡ Some v → is_some (of_json v) ≡ true)
    → spelled.later_or later (cond same (Some j) None) ≡ Some v → is_some (of_json v) ≡ true
later_meant j v (Some other) same here later e = later e
later_meant j v None true here later e = ap (λ i. is_some (of_json i)) (sym (some_of j v e)) ∙ here
later_meant j v None false here later e = absurd (cc)

-- each value under a key of members that mean something means something
member_meant : (k : List ℕ) (ms : json.Members) (old : Members) (v : json.Json) → is_some (of_members ms old) ≡ true → spelled.get_member k ms ≡ Some v → is_some (of_json v) ≡ true
member_meant k json.no_members old v h e = absurd (cc)
member_meant k (json.member l j ms) old v h e =
    let parts = both_meant (of_json j) (λ d. of_members ms (put l d old)) h in
    later_meant j v (spelled.get_member k ms) (bytes_eq l k) (ap is_some parts.1) (λ is. member_meant k ms (put l parts.0 old) v parts.2 is) e

found_meant : (k : List ℕ) (j v : json.Json) → is_some (of_json j) ≡ true → spelled.get k j ≡ Some v → is_some (of_json v) ≡ true
found_meant k json.null v h e = absurd (cc)
found_meant k (json.boolean b) v h e = absurd (cc)
found_meant k (json.number s) v h e = absurd (cc)
found_meant k (json.string s) v h e = absurd (cc)
found_meant k (json.array js) v h e = absurd (cc)
found_meant k (json.object ms) v h e = member_meant k ms no_members v (some_inside object (of_members ms no_members) h) e

-- an object has a key where its text has it
pub key_found : (k : List ℕ) (j : json.Json) → is_some (of_json j) ≡ true → is_some (get k (unwrap_or (of_json j) null)) ≡ is_some (spelled.get k j)
key_found k j h = ap is_some (found k j h) ∙ by (spelled.get k j) refl
  where
    by : (o : Option json.Json) → spelled.get k j ≡ o → is_some (option_and_then of_json o) ≡ is_some o
    by None e = refl
    by (Some v) e = found_meant k j v h e

pub some_mapped : {A B : Type 0} (f : A → B) (o : Option A) → is_some o ≡ is_some (option_map f o)
some_mapped f None = refl
some_mapped f (Some a) = refl

-- a line that is read has paths with names
pub line_named : (root text : List ℕ) (line : DueLine) → line_of root text ≡ Some line → IsNamedLine line.task
line_named root text line is =
    let object = then_some (line_in root) (value_of text) line is in
    let task = then_some (λ (task : tasks.TaskLine). option_map (λ (due : Option Due). record { task = task; due = due }) (due_in root object.0)) (tasks.line_in root object.0) line object.2 in
    let due = map_some (λ (due : Option Due). record { task = task.0; due = due }) (due_in root object.0) line task.2 in
    let plain = said_plain root object.0 task.0 task.1 in
    subst (λ (l : DueLine). IsNamedLine l.task) due.2 (record { reads = plain.reads_named; writes = plain.writes_named })
