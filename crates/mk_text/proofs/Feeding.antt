-- A reader of lines, line by line.
use Rattle.std.proofs.Common.{◌≡◌, ℕ, zero, suc, ◌+◌, ◌-◌, ◌^◌, ◌≤◌, List, [], ◌∷◌, ◌++◌, Err, Result, Ok, Option, None, Some, true, false, length, take, refl, sym, ap, ap₂, subst, ◌∙◌, inl, inr, arith, append_assoc}
use Rattle.std.specs.Prelude.{is_some, min}
use Rattle.std.specs.Result.{IfErr, OnOk, result_err}
use Rattle.std.proofs.lemmas.Bool.{cases_lt, false≢true}
use Rattle.std.proofs.lemmas.List.{append-nil, length-append, length-take, take-append-le, take_all}
use Rattle.mk_name.specs.Reported.{Reported}
use Rattle.mk_name.specs.Gives.{HaltsAmong}
use Rattle.mk_name.specs.declared.fault.Source.{Source}
use Rattle.mk_text.specs.Lexical.{physical_lines}
use Rattle.mk_text.specs.Fed.{IsCut}
use Rattle.mk_text.specs.LineFeed.{HasEndedBy, HasRead, HasReadBy, HasStopped, IsIn, IsStoppedIn, IsUnderWay, Reader, fault_at, halt_of, place_behind}
use Rattle.mk_text.specs.declared.line_sink.Stop.{Stop}
use Rattle.mk_text.specs.declared.line_sink.Stop.TheVariants.{Memory, Fault}
use Rattle.mk_text.proofs.FedLines.{joined, joined_open, lines_joined, some_lines}

-- ---- the first bytes of a line

past : (line bytes : List ℕ) (n : ℕ) → length line ≤ n → line ++ take (n - length line) bytes ≡ take n (line ++ bytes)
past [] bytes n le = ap (λ k. take k bytes) (omega arith)
past (x ∷ xs) bytes zero le = absurd (omega (arith, le))
past (x ∷ xs) bytes (suc n) le = ap (λ ls. x ∷ ls) (ap (λ k. xs ++ take k bytes) (omega arith) ∙ past xs bytes n (omega (arith, le)))

up_to : (n : ℕ) (bytes : List ℕ) → take (min n (length bytes)) bytes ≡ take n bytes
up_to n bytes =
    elim (cases_lt n (length bytes)) [
      | inl less ↦ ap (λ k. take k bytes) (omega (arith, less))
      | inr more ↦ ap (λ k. take k bytes) (let e : min n (length bytes) ≡ length bytes = omega (arith, more) in e) ∙ take_all (length bytes) bytes (omega arith) ∙ sym (take_all n bytes more)
    ]

grows : (n : ℕ) (line bytes : List ℕ) → take n line ++ take (min (n - length (take n line)) (length bytes)) bytes ≡ take n (line ++ bytes)
grows n line bytes =
    elim (cases_lt n (length line)) [
      | inl less ↦
          ap (λ k. take n line ++ k)
          (ap (λ k. take k bytes) (let e : min (n - length (take n line)) (length bytes) ≡ 0 = omega (arith, less, length-take n line) in e))
          ∙ append-nil (take n line) ∙ sym (take-append-le n line bytes (omega (arith, less)))
      | inr more ↦
          ap (λ k. k ++ take (min (n - length k) (length bytes)) bytes) (take_all n line more)
          ∙ ap (λ k. line ++ k) (up_to (n - length line) bytes)
          ∙ past line bytes n more
    ]

-- bytes behind a beginning
pub kept_more : (n : ℕ) (line bytes kept : List ℕ) → kept ≡ take n line → kept ++ take (min (n - length kept) (length bytes)) bytes ≡ take n (line ++ bytes)
kept_more n line bytes kept is =
    ap (λ k. k ++ take (min (n - length k) (length bytes)) bytes) is ∙ grows n line bytes

-- where nothing is kept of a line, its last bytes are all that decide
pub whole_begins : (n : ℕ) (line last kept : List ℕ) → kept ≡ take n line → length kept ≡ 0 → take n last ≡ take n (line ++ last)
whole_begins zero line last kept is none = refl
whole_begins (suc n) [] last kept is none = refl
whole_begins (suc n) (x ∷ xs) last kept is none = absurd (let e : length (take (suc n) (x ∷ xs)) ≡ 0 = ap length (sym is) ∙ none in omega (arith, e))

pub kept_begins : (n : ℕ) (line kept : List ℕ) → kept ≡ take n line → take n kept ≡ take n line
kept_begins n line kept is = ap (take n) is ∙ take_all n (take n line) (omega (arith, length-take n line))

pub none_in : (line : List ℕ) → length line ≡ 0 → line ≡ []
none_in [] none = refl
none_in (x ∷ xs) none = absurd (omega (arith, none))

-- ---- lines

-- the place behind one more line
pub place_more : (ended : List (List ℕ)) (line : List ℕ) (place next : ℕ) → place ≡ place_behind ended → next ≡ min (place + 1) (2 ^ 64 - 1) → next ≡ place_behind (ended ++ line ∷ [])
place_more ended line place next is more = omega (arith, is, more, length-append ended (line ∷ []))

-- the lines of a piece behind a text
pub piece_lines : (text piece first : List ℕ) (left ended : List (List ℕ)) (open_line : List ℕ) → IsCut text ended open_line → physical_lines piece ≡ first ∷ left
    → ended ++ (open_line ++ first) ∷ left ≡ physical_lines (text ++ piece)
piece_lines text piece first left ended open_line cut is =
    sym (joined_open ended open_line first left) ∙ ap₂ joined (sym cut.whole) (sym is) ∙ sym (lines_joined text piece)

module _ {S V : Type 0} (Has : S → List (List ℕ) → Type 0) (Says : List (List ℕ) → Result V Reported → Type 0) (source : Source) (kept : ℕ) where
  one_more : (stop : Stop) (ended : List (List ℕ)) (line : List ℕ) → HasStopped source Says ended stop → HasStopped source Says (ended ++ line ∷ []) stop
  one_more Memory ended line stopped = tt
  one_more (Fault kind place) ended line stopped = λ more.
      subst (λ (ls : List (List ℕ)). Says ls (Err (fault_at source kind place))) (sym (append_assoc ended (line ∷ []) more)) (stopped (line ∷ more))

  -- a reader that stopped behind some lines of a text has stopped in it
  pub stops_in : (text : List ℕ) (stop : Stop) (ended left : List (List ℕ)) → ended ++ left ≡ physical_lines text → 1 ≤ length left
      → HasStopped source Says ended stop → IsStoppedIn source Says text stop
  stops_in text stop ended [] is some stopped = absurd (omega (arith, some))
  stops_in text stop ended (line ∷ []) is some stopped = record { ended = ended; open_line = line; cut = record { whole = sym is }; stopped = stopped }
  stops_in text stop ended (line ∷ next ∷ left) is some stopped =
      stops_in text stop (ended ++ line ∷ []) (next ∷ left) (append_assoc ended (line ∷ []) (next ∷ left) ∙ is) (omega arith) (one_more stop ended line stopped)

  stays_by : (text piece : List ℕ) (stop : Stop) (lines : List (List ℕ)) → physical_lines piece ≡ lines → 1 ≤ length lines
      → IsStoppedIn source Says text stop → IsStoppedIn source Says (text ++ piece) stop
  stays_by text piece stop [] is some stopped = absurd (omega (arith, some))
  stays_by text piece stop (first ∷ left) is some stopped =
      stops_in (text ++ piece) stop stopped.ended ((stopped.open_line ++ first) ∷ left)
      (piece_lines text piece first left stopped.ended stopped.open_line stopped.cut is) (omega arith) stopped.stopped

  -- a reader that stopped has stopped in a longer text too
  pub stays_stopped : (text piece : List ℕ) (stop : Stop) → IsStoppedIn source Says text stop → IsStoppedIn source Says (text ++ piece) stop
  stays_stopped text piece stop = stays_by text piece stop (physical_lines piece) refl (some_lines piece)

  -- a reader that goes on, and one that stopped
  under_way_by : (stop : Option Stop) (text : List ℕ) (reader : Reader S) → is_some stop ≡ false → HasReadBy stop Has Says source kept text reader → IsIn Has kept text reader
  under_way_by None text reader none read = read
  under_way_by (Some stop) text reader none read = absurd (false≢true (sym none))

  pub under_way : (text : List ℕ) (reader : Reader S) → is_some reader.stop ≡ false → HasRead Has Says source kept text reader → IsIn Has kept text reader
  under_way text reader = under_way_by reader.stop text reader

  pub stopped_reads : (stop : Option Stop) (text piece : List ℕ) (reader : Reader S) → is_some stop ≡ true → HasReadBy stop Has Says source kept text reader
      → HasReadBy stop Has Says source kept (text ++ piece) reader
  stopped_reads None text piece reader some read = absurd (false≢true some)
  stopped_reads (Some stop) text piece reader some read = stays_stopped text piece stop read

  pub stopped_ends : (stop : Option Stop) (text : List ℕ) (reader : Reader S) → is_some stop ≡ true → HasReadBy stop Has Says source kept text reader
      → HasEndedBy stop Has Says source (physical_lines text) reader.sink
  stopped_ends None text reader some read = absurd (false≢true some)
  stopped_ends (Some stop) text reader some read =
      subst (λ (ls : List (List ℕ)). HasStopped source Says ls stop) (sym read.cut.whole) (one_more stop read.ended read.open_line read.stopped)

  -- what a call says that goes on or stops
  pub reads_by : {P : Type 0} {Q : Stop → Type 0} (text : List ℕ) (reader : Reader S) (result : Result (Unit {0}) Stop) → OnOk result P → IfErr result Q
      → (P → IsIn Has kept text reader) → ((stop : Stop) → Q stop → IsStoppedIn source Says text stop) → HasReadBy (result_err result) Has Says source kept text reader
  reads_by text reader (Ok done) ok err goes stops = goes ok
  reads_by text reader (Err stop) ok err goes stops = stops stop err

  pub ends_by : {P : Type 0} {Q : Stop → Type 0} (lines : List (List ℕ)) (sink : S) (result : Result (Unit {0}) Stop) → OnOk result P → IfErr result Q
      → (P → Has sink lines) → ((stop : Stop) → Q stop → HasStopped source Says lines stop) → HasEndedBy (result_err result) Has Says source lines sink
  ends_by lines sink (Ok done) ok err goes stops = goes ok
  ends_by lines sink (Err stop) ok err goes stops = stops stop err

  -- the last line of a text ends with it
  pub last_line : (text : List ℕ) (reader : Reader S) (on : IsIn Has kept text reader) → on.ended ++ (on.open_line ++ []) ∷ [] ≡ physical_lines text
  last_line text reader on = ap (λ l. on.ended ++ l ∷ []) (append-nil on.open_line) ∙ sym on.cut.whole

  -- why a reader stopped behind all lines
  pub halts_of : (lines : List (List ℕ)) (stop : Stop) → HasStopped source Says lines stop → HaltsAmong (halt_of source stop) (Says lines)
  halts_of lines Memory stopped = tt
  halts_of lines (Fault kind place) stopped = subst (λ (ls : List (List ℕ)). Says ls (Err (fault_at source kind place))) (append-nil lines) (stopped [])

-- what is read of a text: the bytes of a piece that are next, and the lines that are left
pub record ReadsOn {S : Type 0} (Has : S → List (List ℕ) → Type 0) (kept : ℕ) (all : List (List ℕ)) (line : List ℕ) (left : List (List ℕ)) (reader : Reader S) : Type 0 where
  pub ended : List (List ℕ)
  pub open_line : List ℕ
  pub whole : ended ++ (open_line ++ line) ∷ left ≡ all
  pub way : IsUnderWay Has kept ended open_line reader

-- a line that was taken in has ended
pub ends : {S : Type 0} (Has : S → List (List ℕ) → Type 0) (kept : ℕ) (ended : List (List ℕ)) (line : List ℕ) (place : ℕ) (new : Reader S)
    → Has new.sink (ended ++ line ∷ []) → place ≡ place_behind ended → new.place ≡ min (place + 1) (2 ^ 64 - 1) → new.open_line ≡ []
    → IsUnderWay Has kept (ended ++ line ∷ []) [] new
ends Has kept ended line place new has place_is next none = record {
  has = has;
  place_is = place_more ended line place new.place place_is next;
  begun = none ∙ sym (no_bytes kept);
}
  where
    no_bytes : (n : ℕ) → take {A = ℕ} n [] ≡ []
    no_bytes zero = refl
    no_bytes (suc n) = refl
