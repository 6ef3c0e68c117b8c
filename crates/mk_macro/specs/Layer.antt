-- Texts that are expanded one inside the other, and what is kept of them.
use Rattle.std.specs.Prelude.{◌≡◌, ℕ, ◌+◌, ◌<◌, ◌≤◌, List, [], ◌∷◌, ◌++◌, Option, None, Some, ◌⊎◌, All, length, reverse}
use Rattle.mk_macro.specs.Expansion.{byte_limit}
use Rattle.mk_macro.specs.Reference.{Change}
use Rattle.mk_macro.specs.Substitution.{changed}
use Rattle.mk_macro.specs.Words.{ComesToSame, reach}

-- what is kept of a text, how many of its bytes went on before, and the substitution under which it goes on
pub record Layer : Type 0 where
  pub change : Option Change
  pub kept : List ℕ
  pub passed : ℕ

-- what is done for good, the layers around the innermost, the outermost first, the innermost, and how many bytes were left in layers around it since the last time that all were short
pub record Output : Type 0 where
  pub done : List ℕ
  pub outer : List Layer
  pub top : Layer
  pub loose : ℕ

-- how long the text of a layer is so far; one that is known to be too long may count as longer
abbrev pub size : Layer → ℕ
size layer = layer.passed + length layer.kept

-- a layer with more bytes at its end
abbrev pub longer : Layer → List ℕ → Layer
longer layer more = record layer { kept = layer.kept ++ more }

-- a text as far as the texts inside it are complete, and the substitution under which it goes on
pub record Text : Type 0 where
  pub change : Option Change
  pub own : List ℕ

-- a text with more bytes at its end
abbrev pub grown : Text → List ℕ → Text
grown text more = record text { own = text.own ++ more }

-- of each text only what a later text may change is kept
abbrev pub AreShort : List Layer → Type 0
AreShort layers = All (λ layer. length layer.kept ≤ reach layer.change) layers

-- the bytes that are left in a layer around the innermost are counted, or all layers around it are short
abbrev pub IsCounted : Output → Output → Type 0
IsCounted old new = (new.loose ≡ old.loose + length old.top.kept) ⊎ AreShort new.outer

-- a layer lets what is settled flow on, or more than any text may have
pub record Settles (old new : Layer) (flow : Option (List ℕ)) : Type 0 where
  pub same_change : new.change ≡ old.change
  pub short : length new.kept ≤ reach old.change
  pub size_is : size old ≤ byte_limit → size new ≡ size old
  pub still_over : byte_limit < size old → (byte_limit < size new) × (flow ≡ None)
  pub flows : (done : List ℕ) → flow ≡ Some done → ComesToSame old.change old.kept [] new.kept done
  pub over : flow ≡ None → size old ≤ byte_limit → (later : List ℕ) → byte_limit < length (changed old.change (old.kept ++ later))

-- a layer takes in what flows to it, unless it comes to more than a text may have
pub record TakesIn (old new : Layer) (flow : Option (List ℕ)) : Type 0 where
  pub same_change : new.change ≡ old.change
  pub fits : (done : List ℕ) → flow ≡ Some done → size old + length done ≤ byte_limit → new ≡ longer old done
  pub over : (done : List ℕ) → flow ≡ Some done → byte_limit < size old + length done → byte_limit < size new
  pub all_over : flow ≡ None → byte_limit < size new

-- a layer takes in what flows to it, and lets flow on what is settled then
abbrev pub Passes : Layer → Option (List ℕ) → Layer → Option (List ℕ) → Type 0
Passes old flow new next = (between : Layer) × TakesIn old between flow × Settles between new next

-- layers pass on what flows to the first of them, one to the next
abbrev pub Relays : List Layer → Option (List ℕ) → List Layer → Option (List ℕ) → Type 0
Relays [] flow [] out = out ≡ flow
Relays [] flow (new ∷ news) out = ⊥
Relays (old ∷ olds) flow [] out = ⊥
Relays (old ∷ olds) flow (new ∷ news) out = (next : Option (List ℕ)) × Passes old flow new next × Relays olds next news out

-- what is kept of a text stands for it in the one around it, which is `so_far` with what has flowed to it; a text that is too long stands for nothing, nor does one around it
pub record StandsFor (inner : Layer) (whole : List ℕ) (layer : Layer) (text : Text) (so_far : List ℕ) : Type 0 where
  pub change_is : layer.change ≡ text.change
  pub outwards : byte_limit < size inner → byte_limit < size layer
  pub over : size inner ≤ byte_limit → byte_limit < size layer → (later : List ℕ) → byte_limit < length (text.own ++ changed inner.change (whole ++ later))
  pub size_is : size layer ≤ byte_limit → length so_far ≡ size layer
  pub same : size layer ≤ byte_limit → ComesToSame inner.change whole text.own inner.kept so_far

-- the layers around one hold these texts, from the inside
abbrev pub Around : List ℕ → Layer → List ℕ → List Layer → List Text → Type 0
Around done inner whole [] [] = (inner.change ≡ None) × (size inner ≤ byte_limit → whole ≡ done ++ inner.kept)
Around done inner whole [] (text ∷ texts) = ⊥
Around done inner whole (layer ∷ layers) [] = ⊥
Around done inner whole (layer ∷ layers) (text ∷ texts) =
    (so_far : List ℕ) × StandsFor inner whole layer text so_far × Around done layer so_far layers texts

-- an output holds these texts: the innermost, and those around it from the inside
pub record OutputHolds (output : Output) (text : Text) (texts : List Text) : Type 0 where
  pub change_is : output.top.change ≡ text.change
  pub within : size output.top ≤ byte_limit
  pub size_is : length text.own ≡ size output.top
  pub around : Around output.done output.top text.own (reverse output.outer) texts

-- an output comes to hold more at the end of the innermost text
abbrev pub Puts : Output → Output → List ℕ → Type 0
Puts old new more = (text : Text) (texts : List Text) → OutputHolds old text texts → OutputHolds new (grown text more) texts
