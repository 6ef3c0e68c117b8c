-- Lines that are added to a text.
use Rattle.std.proofs.Common.{◌≡◌, ℕ, ◌<◌, Bool, true, false, ◌&&◌, List, [], ◌∷◌, ◌++◌, map, zero, suc, ◌+◌, arith, length, take, get_or, refl, sym, ap, ◌∙◌, subst, append_assoc}
use Rattle.std.proofs.lemmas.Grind.{flat_map-append}
use Rattle.std.proofs.lemmas.List.{append-nil, map-append, take_more}
use Rattle.std.proofs.lemmas.List.Elements.{All-append, All-cons, All-nil}
use Rattle.std.proofs.lemmas.List.Folds.{list_all-append}
use Rattle.std.specs.List.{flat_map, list_all}
use Rattle.std.specs.Map.{keys_of}
use Rattle.std.specs.Str.{is_utf8}
use Rattle.serde_json.specs.Data.{Data}
use Rattle.mk_name.specs.Names.{Name}
use Rattle.mk_jobs.specs.Jobs.{Jobs}
use Rattle.mk_sched.specs.Stores.{File}
use Rattle.mk_sched.specs.Stored.{StoredFiles}
use Rattle.mk_sched.specs.declared.event.Event.{Event}
use Rattle.mk_log.specs.Spelled.{Adds, IsSpelled, names_reported, object_of}
use Rattle.mk_log.specs.Writing.{line_of}
use Rattle.mk_log.specs.declared.entry.Entry.{Entry}

-- no line
pub none_added : (jobs : Jobs) (text : List ℕ) → Adds jobs [] text text
none_added jobs text = record { lines = sym (append-nil text); is_text = refl; spelled = All-nil (IsSpelled jobs) }

-- the line of one entry
pub one_added : (jobs : Jobs) (entry : Entry) (d : Data) (old new : List ℕ) → d ≡ object_of jobs entry → new ≡ old ++ line_of d
    → list_all is_utf8 (names_reported jobs entry) ≡ true → IsSpelled jobs entry → Adds jobs (entry ∷ []) old new
one_added jobs entry d old new same line text spelled = record {
  lines = line ∙ ap (λ e. old ++ line_of e) same ∙ ap (λ t. old ++ t) (sym (append-nil (line_of (object_of jobs entry))));
  is_text = ap (list_all is_utf8) (append-nil (names_reported jobs entry)) ∙ text;
  spelled = All-cons (IsSpelled jobs) entry [] spelled (All-nil (IsSpelled jobs));
}

-- some lines, and then others
pub more_added : (jobs : Jobs) (first later : List Entry) (old middle new : List ℕ) → Adds jobs first old middle → Adds jobs later middle new
    → Adds jobs (first ++ later) old new
more_added jobs first later old middle new a b =
    let lines_for = λ (entries : List Entry). flat_map line_of (map (object_of jobs) entries) in
    record {
      lines = b.lines ∙ ap (λ t. t ++ lines_for later) a.lines ∙ append_assoc old (lines_for first) (lines_for later)
          ∙ ap (λ t. old ++ t) (sym (ap (flat_map line_of) (map-append (object_of jobs) first later)
          ∙ flat_map-append line_of (map (object_of jobs) first) (map (object_of jobs) later)));
      is_text = ap (list_all is_utf8) (flat_map-append (names_reported jobs) first later)
          ∙ list_all-append is_utf8 (flat_map (names_reported jobs) first) (flat_map (names_reported jobs) later)
          ∙ rw (a.is_text, b.is_text) refl;
      spelled = All-append (IsSpelled jobs) first later a.spelled b.spelled;
    }

-- ---- names that are not UTF-8

and_false : (a b : Bool) → b ≡ false → (a && b) ≡ false
and_false true b h = h
and_false false b h = refl

false_and : (a b : Bool) → a ≡ false → (a && b) ≡ false
false_and a b h = rw h refl

-- one of the names of a store is not
pub not_all_there : (done : StoredFiles) (placed : Name × File) (rest whole : StoredFiles) → done ++ placed ∷ rest ≡ whole → is_utf8 placed.0 ≡ false
    → list_all is_utf8 (keys_of whole) ≡ false
not_all_there [] placed rest whole same not = subst (λ (files : StoredFiles). list_all is_utf8 (keys_of files) ≡ false) same (false_and _ _ not)
not_all_there (first ∷ done) placed rest whole same not =
    subst (λ (files : StoredFiles). list_all is_utf8 (keys_of files) ≡ false) same
    (and_false (is_utf8 first.0) _ (not_all_there done placed rest (done ++ placed ∷ rest) refl not))

-- one of the events has one that is not
pub not_all_at : (names : Event → List Name) (events : List Event) (n : ℕ) (event : Event) → n < length events → event ≡ get_or events n event
    → list_all is_utf8 (names event) ≡ false → list_all is_utf8 (flat_map names events) ≡ false
not_all_at names [] n event below is not = absurd (omega arith)
not_all_at names (first ∷ events) zero event below is not =
    list_all-append is_utf8 (names first) (flat_map names events)
    ∙ false_and _ _ (subst (λ (e : Event). list_all is_utf8 (names e) ≡ false) is not)
not_all_at names (first ∷ events) (suc n) event below is not =
    list_all-append is_utf8 (names first) (flat_map names events)
    ∙ and_false (list_all is_utf8 (names first)) _ (not_all_at names events n event (omega arith) is not)

-- one more event
pub taken_more : (events : List Event) (n : ℕ) (event : Event) → n < length events → event ≡ get_or events n event → take (n + 1) events ≡ take n events ++ event ∷ []
taken_more events n event below is = take_more events n event below ∙ ap (λ (e : Event). take n events ++ e ∷ []) (sym is)
