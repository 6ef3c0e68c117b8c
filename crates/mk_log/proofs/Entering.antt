-- How a log grows by a file.
use Rattle.std.proofs.Common.{ℕ, ◌≡◌, ◌==◌, rules, true, false, cond, Bool, List, [], ◌∷◌, ◌++◌, Option, Some, None, refl, sym, ap, ◌∙◌, subst, length, not, ◌&&◌, ◌||◌, is_some, option_map}
use Rattle.std.specs.List.{list_any}
use Rattle.std.proofs.lemmas.Bool.{and_parts}
use Rattle.std.proofs.lemmas.List.{append-nil}
use Rattle.std.proofs.lemmas.Grind.{flat_map-append}
use Rattle.mk_name.specs.Names.{Name, same_name}
use Rattle.mk_sched.specs.Stores.{File}
use Rattle.mk_sched.specs.Stored.{IsInOrder, store_of, with_file}
use Rattle.mk_log.specs.Reading.{IsLogOf, may_follow, is_event, is_at, files_of, events_of, file_of, event_of}
use Rattle.mk_log.specs.declared.entry.Entry.{Entry}
use Rattle.mk_log.specs.declared.entry.Entry.TheVariants.{Holds, Happens}
use Rattle.mk_log.specs.Logs.{Log}
use Rattle.mk_log.proofs.Putting.{in_order_with, store_last}

files_more : (before : List Entry) (entry : Entry) → files_of (before ++ entry ∷ []) ≡ files_of before ++ file_of entry
files_more before entry = flat_map-append file_of before (entry ∷ []) ∙ ap (λ files. files_of before ++ files) (append-nil (file_of entry))

events_more : (before : List Entry) (entry : Entry) → events_of (before ++ entry ∷ []) ≡ events_of before ++ event_of entry
events_more before entry = flat_map-append event_of before (entry ∷ []) ∙ ap (λ events. events_of before ++ events) (append-nil (event_of entry))

-- no event is among entries where they have none
no_event : (entries : List Entry) → not (list_any is_event entries) ≡ (length (events_of entries) == 0)
no_event [] = refl
no_event (Holds path bytes time ∷ entries) = no_event entries
no_event (Happens event ∷ entries) = search rules

-- the file at a name is among entries where their files have one there
any_file : (entries : List Entry) (x : Name) → list_any (is_at x) entries ≡ is_some (store_of (files_of entries) x)
any_file [] x = refl
any_file (Holds path bytes time ∷ entries) x = by (same_name x path) (any_file entries x)
  where
    by : (b : Bool) → list_any (is_at x) entries ≡ is_some (store_of (files_of entries) x)
        → (b || list_any (is_at x) entries) ≡ is_some (cond b (Some (record { bytes = bytes; time = time })) (store_of (files_of entries) x))
    by true rest = refl
    by false rest = rest
any_file (Happens event ∷ entries) x = any_file entries x

-- a file may follow where the log has no event, and no file at its name
pub may_hold : (before : List Entry) (log : Log) (path : Name) (bytes : List ℕ) (time : ℕ) → IsLogOf before log
    → may_follow before (Holds path bytes time) ≡ ((length log.events == 0) && not (is_some (store_of log.store path)))
may_hold before log path bytes time is =
    ap (λ b. b && not (list_any (is_at path) before)) (no_event before ∙ ap (λ es. length es == 0) (sym is.events))
    ∙ ap (λ b. (length log.events == 0) && not b) (any_file before path ∙ ap is_some (sym (is.files path)))

opposite : (b : Bool) → b ≡ not (not b)
opposite true = refl
opposite false = refl

some_alike : {A B : Type 0} (f : A → B) (o : Option A) → is_some o ≡ is_some (option_map f o)
some_alike f None = refl
some_alike f (Some x) = refl

-- a test for nothing says it of what is made of it, too
pub reports_nothing : {A B : Type 0} (f : A → B) (o : Option A) (p : Option B) (none : Bool) → is_some o ≡ not none → option_map f o ≡ p → none ≡ not (is_some p)
reports_nothing f o p none is made = opposite none ∙ ap not (sym is ∙ some_alike f o ∙ ap is_some made)

-- the name of a file that may follow is free
free : (before : List Entry) (path : Name) → (not (list_any is_event before) && not (list_any (is_at path) before)) ≡ true → store_of (files_of before) path ≡ None
free before path follows = by (store_of (files_of before) path) (sym (any_file before path)) (and_parts _ _ follows).1
  where
    by : (o : Option File) → is_some o ≡ list_any (is_at path) before → not (list_any (is_at path) before) ≡ true → o ≡ None
    by None is absent = refl
    by (Some file) is absent = absurd (cc (ap not is ∙ absent))

-- the log with a file more
pub holds_more : (before : List Entry) (old new : Log) (path : Name) (bytes : List ℕ) (time : ℕ) → IsLogOf before old → may_follow before (Holds path bytes time) ≡ true
    → ((x : Name) → store_of new.store x ≡ cond (same_name path x) (Some (record { bytes = bytes; time = time })) (store_of old.store x))
    → new.store ≡ with_file old.store path (record { bytes = bytes; time = time }) → new.events ≡ old.events
    → IsLogOf (before ++ Holds path bytes time ∷ []) new
holds_more before old new path bytes time is follows files all events =
    let file : File = record { bytes = bytes; time = time } in
    record {
      files = λ x.
          files x
          ∙ ap (cond (same_name path x) (Some file)) (is.files x)
          ∙ sym (store_last (files_of before) path file x (free before path follows))
          ∙ ap (λ fs. store_of fs x) (sym (files_more before (Holds path bytes time)));
      in_order = subst IsInOrder (sym all) (in_order_with old.store path file is.in_order);
      events = events ∙ is.events ∙ sym (append-nil (events_of before)) ∙ sym (events_more before (Holds path bytes time));
    }
