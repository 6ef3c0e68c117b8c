-- A reader of lines: what it is once it was fed a text, in whatever pieces.
use Rattle.std.specs.Prelude.{◌≡◌, ◌+◌, ◌-◌, ◌^◌, ℕ, List, [], ◌++◌, Option, None, Some, Result, Ok, Err, length, min, take}
use Rattle.mk_name.specs.Reported.{Reported}
use Rattle.mk_name.specs.declared.fault.Halt.{Halt}
use Rattle.mk_name.specs.declared.fault.Halt.TheVariants as halts
use Rattle.mk_name.specs.declared.fault.Kind.{Kind}
use Rattle.mk_name.specs.declared.fault.Source.{Source}
use Rattle.mk_text.specs.Fed.{IsCut}
use Rattle.mk_text.specs.declared.line_sink.Stop.{Stop}
use Rattle.mk_text.specs.declared.line_sink.Stop.TheVariants.{Memory, Fault}

-- the lines that were taken in; the place of the line that is open; its first bytes; why the reader goes no further
pub record Reader (S : Type 0) : Type 0 where
  pub sink : S
  pub place : ℕ
  pub open_line : List ℕ
  pub stop : Option Stop

-- the place of the line behind these, from 1; what would pass the greatest place stays there
abbrev pub place_behind : List (List ℕ) → ℕ
place_behind lines = min (length lines + 1) (2 ^ 64 - 1)

-- a line comes behind others, at this place, and begins with the same bytes as this one
pub record ComesBehind (kept : ℕ) (ended : List (List ℕ)) (whole line : List ℕ) (place : ℕ) : Type 0 where
  pub place_is : place ≡ place_behind ended
  pub begins : take kept line ≡ take kept whole

-- a fault of the line at a place, without names
abbrev pub fault_at : Source → Kind → ℕ → Reported
fault_at source kind place = record { kind = kind; source = source; place = place; names = [] }

-- what is known where a reader stops behind some lines: they have the first fault, whatever comes behind them; out of memory
-- says nothing
abbrev pub HasStopped : {V : Type 0} → Source → (List (List ℕ) → Result V Reported → Type 0) → List (List ℕ) → Stop → Type 0
HasStopped source Says ended Memory = Unit {0}
HasStopped source Says ended (Fault kind place) = (more : List (List ℕ)) → Says (ended ++ more) (Err (fault_at source kind place))

-- the lines that ended were taken in, and so many first bytes of the open line are kept
pub record IsUnderWay {S : Type 0} (Has : S → List (List ℕ) → Type 0) (kept : ℕ) (ended : List (List ℕ)) (open_line : List ℕ) (reader : Reader S) : Type 0 where
  pub has : Has reader.sink ended
  pub place_is : reader.place ≡ place_behind ended
  pub begun : reader.open_line ≡ take kept open_line

-- the reader took in the lines of a text that have ended
pub record IsIn {S : Type 0} (Has : S → List (List ℕ) → Type 0) (kept : ℕ) (text : List ℕ) (reader : Reader S) : Type 0 where
  pub ended : List (List ℕ)
  pub open_line : List ℕ
  pub cut : IsCut text ended open_line
  pub way : IsUnderWay Has kept ended open_line reader

-- a reader stopped at the first fault of the lines of a text that have ended, or out of memory
pub record IsStoppedIn {V : Type 0} (source : Source) (Says : List (List ℕ) → Result V Reported → Type 0) (text : List ℕ) (stop : Stop) : Type 0 where
  pub ended : List (List ℕ)
  pub open_line : List ℕ
  pub cut : IsCut text ended open_line
  pub stopped : HasStopped source Says ended stop

-- the reader has read a text: it is under way, or has stopped
abbrev pub HasReadBy : {S V : Type 0} → Option Stop → (S → List (List ℕ) → Type 0) → (List (List ℕ) → Result V Reported → Type 0) → Source → ℕ → List ℕ → Reader S → Type 0
HasReadBy None Has Says source kept text reader = IsIn Has kept text reader
HasReadBy (Some stop) Has Says source kept text reader = IsStoppedIn source Says text stop

abbrev pub HasRead : {S V : Type 0} → (S → List (List ℕ) → Type 0) → (List (List ℕ) → Result V Reported → Type 0) → Source → ℕ → List ℕ → Reader S → Type 0
HasRead Has Says source kept text reader = HasReadBy reader.stop Has Says source kept text reader

-- the reader took in all these lines, or has stopped
abbrev pub HasEndedBy : {S V : Type 0} → Option Stop → (S → List (List ℕ) → Type 0) → (List (List ℕ) → Result V Reported → Type 0) → Source → List (List ℕ) → S → Type 0
HasEndedBy None Has Says source lines sink = Has sink lines
HasEndedBy (Some stop) Has Says source lines sink = HasStopped source Says lines stop

-- why a reader that stopped gives nothing
abbrev pub halt_of : Source → Stop → Halt
halt_of source Memory = halts.Memory
halt_of source (Fault kind place) = halts.Fault (fault_at source kind place)

-- what a reader answers to a piece: nothing, or why it goes no further
abbrev pub answer_of : Source → Option Stop → Result (Unit {0}) Halt
answer_of source None = Ok tt
answer_of source (Some stop) = Err (halt_of source stop)
