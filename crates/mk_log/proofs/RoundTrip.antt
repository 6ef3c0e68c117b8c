-- What is written reads as the log that was written.
use Rattle.std.proofs.Common.{◌≡◌, ℕ, ◌+◌, true, false, List, [], ◌∷◌, ◌++◌, length, take, map, ◌==◌, Option, None, Some, Ok, slice_get, unwrap_or, Less, Greater, is_eq, refl, sym, ap, ◌∙◌, subst, arith, append_assoc}
use Rattle.std.proofs.lemmas.List.{map-append}
use Rattle.std.proofs.lemmas.List.Elements.{All-cons, All-head, All-nil, All-tail}
use Rattle.std.proofs.lemmas.List.Splits.{slice_split_at}
use Rattle.std.specs.List.{All, AllByRecursion, enumerate_from, filter_map, flat_map, list_all, list_any}
use Rattle.std.specs.Cmp.Lexicographic.{slice_cmp, nat_list_cmp_total}
use Rattle.std.specs.Map.{keys_of}
use Rattle.std.specs.Option.{option_map_or}
use Rattle.std.specs.Ordering.{nat_cmp, ordering_reverse}
use Rattle.std.proofs.lemmas.Grind.{flat_map-append}
use Rattle.std.proofs.lemmas.Map.Keys.{sorted_head, sorted_tail}
use Rattle.std.proofs.lemmas.Map.Text.{is_eq-slice_cmp}
use Rattle.serde_json.specs.Data.{Data}
use Rattle.serde_json.specs.Written.{compact_text}
use Rattle.mk_name.specs.Names.{Name, same_name}
use Rattle.mk_name.specs.Reported.{Reported}
use Rattle.mk_jobs.specs.Jobs.{Jobs}
use Rattle.mk_sched.specs.Stores.{File}
use Rattle.mk_sched.specs.Stored.{IsInOrder, StoredFiles, store_of}
use Rattle.mk_sched.specs.declared.event.Event.{Event}
use Rattle.mk_text.specs.Listing.{lines}
use Rattle.mk_log.specs.Entries.{entries_in}
use Rattle.mk_log.specs.Objects.{event_object, file_object}
use Rattle.mk_log.specs.Reading.{IsLogOf, IsLogRead, entries_of, events_of, fault_at, files_of, first_fault, is_at, is_event, is_good, may_follow}
use Rattle.mk_log.specs.Spelled.{IsOneLine, IsSpelled, entries_reported, file_entry, names_reported, object_of}
use Rattle.mk_log.specs.Writing.{NamesItself, ReadBack, line_of, log_text, names_in, names_of}
use Rattle.mk_log.specs.Logs.{Log}
use Rattle.mk_log.specs.declared.entry.Entry.{Entry}
use Rattle.mk_log.specs.declared.entry.Entry.TheVariants.{Happens}

-- the lines of objects, each on one line, and what stands behind the last newline
pub lines_cut : (ds : List Data) → All (λ d. IsOneLine (compact_text d)) ds → lines (flat_map line_of ds) ≡ map compact_text ds ++ [] ∷ []
lines_cut [] all = refl
lines_cut (d ∷ ds) all =
    let P : Data → Type 0 = λ e. IsOneLine (compact_text e) in
    ap lines (append_assoc (compact_text d) (10 ∷ []) (flat_map line_of ds))
    ∙ slice_split_at (λ b. b == 10) (compact_text d) 10 (flat_map line_of ds) (All-head P d ds all) refl
    ∙ ap (λ rest. compact_text d ∷ rest) (lines_cut ds (All-tail P d ds all))

-- physical lines are good, each behind those before it
abbrev AreGood : Jobs → List ℕ → List (List ℕ) → List (List ℕ) → Type 0
AreGood jobs root before [] = Unit {0}
AreGood jobs root before (text ∷ texts) = (is_good jobs root before text ≡ true) × AreGood jobs root (before ++ text ∷ []) texts

take_front : (before after : List (List ℕ)) → take (length before) (before ++ after) ≡ before
take_front [] after = refl
take_front (text ∷ before) after = ap (λ rest. text ∷ rest) (take_front before after)

length_more : (before : List (List ℕ)) (text : List ℕ) → length (before ++ text ∷ []) ≡ length before + 1
length_more [] text = refl
length_more (first ∷ before) text = let later = length_more before text in omega arith

-- no fault is among good lines
none_at_fault : (jobs : Jobs) (root : List ℕ) (all before texts : List (List ℕ)) → all ≡ before ++ texts → AreGood jobs root before texts
    → filter_map (fault_at jobs root all) (enumerate_from (length before) texts) ≡ []
none_at_fault jobs root all before [] same good = refl
none_at_fault jobs root all before (text ∷ texts) same good =
    let front : take (length before) all ≡ before = ap (take (length before)) same ∙ take_front before (text ∷ texts) in
    let fine : is_good jobs root (take (length before) all) text ≡ true = ap (λ xs. is_good jobs root xs text) front ∙ good.0 in
    let later = none_at_fault jobs root all (before ++ text ∷ []) texts (same ∙ sym (append_assoc before (text ∷ []) texts)) good.1 in
    rw fine (ap (λ n. filter_map (fault_at jobs root all) (enumerate_from n texts)) (sym (length_more before text)) ∙ later)

-- ---- lines that are written

-- the text of an entry
abbrev text_of : Jobs → Entry → List ℕ
text_of jobs entry = compact_text (object_of jobs entry)

-- each entry is what its text says
abbrev AreBack : Jobs → List ℕ → List Entry → Type 0
AreBack jobs root [] = Unit {0}
AreBack jobs root (entry ∷ entries) = (entries_in jobs root (text_of jobs entry) ≡ Some (entry ∷ [])) × AreBack jobs root entries

all_left : {X : Type 0} (P : X → Type 0) (xs ys : List X) → All P (xs ++ ys) → All P xs
all_left P [] ys all = All-nil P
all_left P (x ∷ xs) ys all = All-cons P x xs (All-head P x (xs ++ ys) all) (all_left P xs ys (All-tail P x (xs ++ ys) all))

all_right : {X : Type 0} (P : X → Type 0) (xs ys : List X) → All P (xs ++ ys) → All P ys
all_right P [] ys all = all
all_right P (x ∷ xs) ys all = all_right P xs ys (All-tail P x (xs ++ ys) all)

are_back : (jobs : Jobs) (root : List ℕ) (entries : List Entry) → All (IsSpelled jobs) entries → All (NamesItself root) (flat_map (names_reported jobs) entries)
    → AreBack jobs root entries
are_back jobs root [] spelled named = tt
are_back jobs root (entry ∷ entries) spelled named =
    let first = All-head (IsSpelled jobs) entry entries spelled in (
      first.back root (all_left (NamesItself root) (names_reported jobs entry) (flat_map (names_reported jobs) entries) named),
      are_back jobs root entries (All-tail (IsSpelled jobs) entry entries spelled)
          (all_right (NamesItself root) (names_reported jobs entry) (flat_map (names_reported jobs) entries) named),
    )

-- each entry may follow those before it
abbrev AreInTurn : List Entry → List Entry → Type 0
AreInTurn before [] = Unit {0}
AreInTurn before (entry ∷ entries) = (may_follow before entry ≡ true) × AreInTurn (before ++ entry ∷ []) entries

-- the entries of one more line
one_more : (jobs : Jobs) (root : List ℕ) (texts : List (List ℕ)) (before : List Entry) (entry : Entry) → entries_of jobs root texts ≡ before
    → entries_in jobs root (text_of jobs entry) ≡ Some (entry ∷ []) → entries_of jobs root (texts ++ text_of jobs entry ∷ []) ≡ before ++ entry ∷ []
one_more jobs root texts before entry same back =
    let says = λ (text : List ℕ). unwrap_or (entries_in jobs root text) [] in
    flat_map-append says texts (text_of jobs entry ∷ [])
    ∙ ap (λ (xs : List Entry). xs ++ (unwrap_or (entries_in jobs root (text_of jobs entry)) [] ++ [])) same
    ∙ ap (λ (o : Option (List Entry)). before ++ (unwrap_or o [] ++ [])) back

-- what is written is good
are_good : (jobs : Jobs) (root : List ℕ) (texts : List (List ℕ)) (before entries : List Entry) → entries_of jobs root texts ≡ before
    → AreBack jobs root entries → AreInTurn before entries → AreGood jobs root texts (map (text_of jobs) entries ++ [] ∷ [])
are_good jobs root texts before [] same back turn = (refl, tt)
are_good jobs root texts before (entry ∷ entries) same back turn = (
  ap (λ (o : Option (List Entry)). option_map_or (list_all (may_follow (entries_of jobs root texts))) o false) back.0
      ∙ ap (λ (xs : List Entry). list_all (may_follow xs) (entry ∷ [])) same
      ∙ rw turn.0 refl,
  are_good jobs root (texts ++ text_of jobs entry ∷ []) (before ++ entry ∷ []) entries (one_more jobs root texts before entry same back.0) back.1 turn.1,
)

-- what is written says the entries
all_entries : (jobs : Jobs) (root : List ℕ) (entries : List Entry) → AreBack jobs root entries → entries_of jobs root (map (text_of jobs) entries ++ [] ∷ []) ≡ entries
all_entries jobs root [] back = refl
all_entries jobs root (entry ∷ entries) back = rw back.0 (ap (λ rest. entry ∷ rest) (all_entries jobs root entries back.1))

-- ---- files, and then events

-- a name that rises above another is another one
above : (x y : Name) → slice_cmp nat_cmp y x ≡ Less → same_name x y ≡ false
above x y rises =
    let falls : slice_cmp nat_cmp x y ≡ Greater = nat_list_cmp_total.antisymm x y ∙ ap ordering_reverse rises in
    sym (is_eq-slice_cmp x y) ∙ ap is_eq falls

-- the file behind some others is one of those that the first one is below
below_middle : (first : Name × File) (front : StoredFiles) (placed : Name × File) (rest : StoredFiles)
    → AllByRecursion (λ y. slice_cmp nat_cmp first.0 y ≡ Less) (keys_of (front ++ placed ∷ rest)) → slice_cmp nat_cmp first.0 placed.0 ≡ Less
below_middle first [] placed rest lower = lower.0
below_middle first (next ∷ front) placed rest lower = below_middle first front placed rest lower.1

-- the names before a file are others
not_there : (front : StoredFiles) (placed : Name × File) (rest : StoredFiles) → IsInOrder (front ++ placed ∷ rest) → list_any (is_at placed.0) (map file_entry front) ≡ false
not_there [] placed rest in_order = refl
not_there (first ∷ front) placed rest in_order =
    let lower = sorted_head (slice_cmp nat_cmp) first.0 (keys_of (front ++ placed ∷ rest)) in_order in
    let later = not_there front placed rest (sorted_tail (slice_cmp nat_cmp) first.0 (keys_of (front ++ placed ∷ rest)) in_order) in
    rw (above placed.0 first.0 (below_middle first front placed rest lower)) later

no_event : (front : StoredFiles) → list_any is_event (map file_entry front) ≡ false
no_event [] = refl
no_event (first ∷ front) = no_event front

events_turn : (before : List Entry) (events : List Event) → AreInTurn before (map (λ event. Happens event) events)
events_turn before [] = tt
events_turn before (event ∷ events) = (refl, events_turn (before ++ Happens event ∷ []) events)

files_turn : (front rest : StoredFiles) (events : List Event) → IsInOrder (front ++ rest)
    → AreInTurn (map file_entry front) (map file_entry rest ++ map (λ event. Happens event) events)
files_turn front [] events in_order = events_turn (map file_entry front) events
files_turn front (placed ∷ rest) events in_order = (
  rw (no_event front, not_there front placed rest in_order) refl,
  subst (λ (before : List Entry). AreInTurn before (map file_entry rest ++ map (λ event. Happens event) events))
      (map-append file_entry front (placed ∷ []))
      (files_turn (front ++ placed ∷ []) rest events (subst (λ (files : StoredFiles). IsInOrder files) (sym (append_assoc front (placed ∷ []) rest)) in_order)),
)

-- ---- the log

files_kept : (files : StoredFiles) (events : List Event) → files_of (map file_entry files ++ map (λ event. Happens event) events) ≡ files
files_kept [] [] = refl
files_kept [] (event ∷ events) = files_kept [] events
files_kept (placed ∷ files) events = ap (λ rest. placed ∷ rest) (files_kept files events)

events_kept : (files : StoredFiles) (events : List Event) → events_of (map file_entry files ++ map (λ event. Happens event) events) ≡ events
events_kept [] [] = refl
events_kept [] (event ∷ events) = ap (λ rest. event ∷ rest) (events_kept [] events)
events_kept (placed ∷ files) events = events_kept files events

-- the names of a log are those that its entries have
names_kept : (jobs : Jobs) (files : StoredFiles) (events : List Event)
    → flat_map (names_reported jobs) (map file_entry files ++ map (λ event. Happens event) events) ≡ keys_of files ++ flat_map (names_in jobs) events
names_kept jobs [] [] = refl
names_kept jobs [] (event ∷ events) = ap (λ rest. names_in jobs event ++ rest) (names_kept jobs [] events)
names_kept jobs (placed ∷ files) events = ap (λ rest. placed.0 ∷ rest) (names_kept jobs files events)

-- the objects of a log are those of its entries
objects_kept : (jobs : Jobs) (files : StoredFiles) (events : List Event)
    → map (object_of jobs) (map file_entry files ++ map (λ event. Happens event) events)
    ≡ map (λ entry. file_object entry.0 entry.1) files ++ map (event_object jobs) events
objects_kept jobs [] [] = refl
objects_kept jobs [] (event ∷ events) = ap (λ rest. event_object jobs event ∷ rest) (objects_kept jobs [] events)
objects_kept jobs (placed ∷ files) events = ap (λ rest. file_object placed.0 placed.1 ∷ rest) (objects_kept jobs files events)

one_lines : (jobs : Jobs) (entries : List Entry) → All (IsSpelled jobs) entries → All (λ d. IsOneLine (compact_text d)) (map (object_of jobs) entries)
one_lines jobs [] spelled = All-nil (λ d. IsOneLine (compact_text d))
one_lines jobs (entry ∷ entries) spelled =
    All-cons (λ d. IsOneLine (compact_text d)) (object_of jobs entry) (map (object_of jobs) entries)
    (All-head (IsSpelled jobs) entry entries spelled).one_line (one_lines jobs entries (All-tail (IsSpelled jobs) entry entries spelled))

map_twice : (jobs : Jobs) (entries : List Entry) → map compact_text (map (object_of jobs) entries) ≡ map (text_of jobs) entries
map_twice jobs [] = refl
map_twice jobs (entry ∷ entries) = ap (λ rest. text_of jobs entry ∷ rest) (map_twice jobs entries)

-- what reads a list of lines
abbrev LinesRead : Jobs → List ℕ → List (List ℕ) → Log → Type 0
LinesRead jobs root texts log = (first_fault jobs root texts ≡ None) × IsLogOf (entries_of jobs root texts) log

-- the lines of spelled entries say the log that has these entries
pub read_back : (jobs : Jobs) (log : Log) (root : List ℕ) → All (IsSpelled jobs) (entries_reported log) → IsInOrder log.store → ReadBack jobs root log
    → IsLogRead jobs root (flat_map line_of (map (object_of jobs) (entries_reported log))) (Ok log)
read_back jobs log root spelled in_order named =
    let entries = entries_reported log in
    let texts = map (text_of jobs) entries ++ [] ∷ [] in
    let cut : lines (flat_map line_of (map (object_of jobs) entries)) ≡ texts =
    lines_cut (map (object_of jobs) entries) (one_lines jobs entries spelled) ∙ ap (λ (xs : List (List ℕ)). xs ++ [] ∷ []) (map_twice jobs entries) in
    let back = are_back jobs root entries spelled (subst (All (NamesItself root)) (sym (names_kept jobs log.store log.events)) named) in
    let good = are_good jobs root [] [] entries refl back (files_turn [] log.store log.events in_order) in
    let said = all_entries jobs root entries back in
    subst (λ (xs : List (List ℕ)). LinesRead jobs root xs log) (sym cut) (
      ap (λ (faults : List Reported). slice_get faults 0) (none_at_fault jobs root texts [] texts refl good),
      record {
        files = λ x. ap (λ (files : StoredFiles). store_of files x) (sym (ap files_of said ∙ files_kept log.store log.events));
        in_order = in_order;
        events = sym (ap events_of said ∙ events_kept log.store log.events);
      },
    )

-- the text of a log is the lines of its entries
pub log_lines : (jobs : Jobs) (log : Log) → flat_map line_of (map (object_of jobs) (entries_reported log)) ≡ log_text jobs log
log_lines jobs log = ap (flat_map line_of) (objects_kept jobs log.store log.events)

-- and its names are those that the entries have
pub log_names : (jobs : Jobs) (log : Log) → flat_map (names_reported jobs) (entries_reported log) ≡ names_of jobs log
log_names jobs log = names_kept jobs log.store log.events
