-- The ways through the loop of an expansion.
use Rattle.std.proofs.Common.{◌≡◌, ℕ, ◌+◌, ◌<◌, ◌≤◌, Bool, true, false, inl, inr, List, [], ◌∷◌, ◌++◌, Option, Some, None, Result, Ok, Err, length, map, refl, sym, ◌∙◌, ap, subst, arith}
use Rattle.std.specs.Prelude.{Vec, reverse}
use Rattle.std.specs.Global.{Global}
use Rattle.std.specs.Result.{IsErrAnd}
use Rattle.std.proofs.lemmas.Result.{err_from_is_err_and}
use Rattle.std.proofs.lemmas.List.{append-nil, reverse-append}
use Rattle.mk_name.specs.Names.{Name}
use Rattle.mk_name.specs.Reported.{Reported}
use Rattle.mk_name.specs.Gives.{HaltsAmong}
use Rattle.mk_name.specs.declared.fault.Halt.{Halt}
use Rattle.mk_name.specs.declared.fault.Halt.TheVariants as halts
use Rattle.mk_name.specs.declared.fault.Kind.TheVariants.{BadReference}
use Rattle.mk_macro.specs.Answers.{AnswersText}
use Rattle.mk_macro.specs.declared.open.Open.{Open}
use Rattle.mk_macro.specs.Expansion.{Expands, Gives, IsExpansion, byte_limit, is_late, macro_fault, refusal}
use Rattle.mk_macro.specs.Expansion.{broken, refused, undefined, itself, late, nothing}
use Rattle.mk_macro.specs.Layer.{Output, OutputHolds, Puts, Text, grown}
use Rattle.mk_macro.specs.Limits.{IsFinal, IsOver, IsRefusal, IsReferred, IsOverReferred, IsTooMuch}
use Rattle.mk_macro.specs.Macros.{Definition, Macros}
use Rattle.mk_macro.specs.Reference.{Change, Item, Reference, Plain, Refers, Broken}
use Rattle.mk_macro.specs.References.{holds, items_of}
use Rattle.mk_macro.specs.Substitution.{changed}
use Rattle.mk_lines.specs.Outside.{dollar}
use Rattle.mk_macro.proofs.Items.{all_plain}
use Rattle.mk_macro.proofs.Steps.{Level, Stands, bytes_on, bytes_seen, bytes_too_long, closes, closes_long, enters, fails, finishes, goes_on, names, the, too_large, too_long}

-- answers
pub fault_answer : (m : Macros) (text : List ℕ) (f : Reported) → Expands m [] (items_of text) 0 (Err f) → IsExpansion m text (Err f)
fault_answer m text f e = record { outcome = Err f; expands = e; answers = refl }

-- a text that stands for itself, inside a value
unexpanded : (m : Macros) (busy : List Name) (text : List ℕ) (count : ℕ) → length text ≤ byte_limit → holds dollar text ≡ false → Expands m busy (items_of text) count (the text count)
unexpanded m busy text count short none =
    subst (λ (items : List Item). Expands m busy items count (the text count)) (sym (all_plain text none)) (bytes_seen [] [] text nothing (omega arith))

-- a text with no dollar sign, and no more bytes than a text may have, stands for itself
pub plain_answer : (m : Macros) (text : List ℕ) → length text ≤ byte_limit → holds dollar text ≡ false → IsExpansion m text (Ok text)
plain_answer m text short none = record {
  outcome = the text 0;
  expands = unexpanded m [] text 0 short none;
  answers = refl;
}

-- what a value gives that stands for itself
module _ {m : Macros} {busy : List Name} {r : Reference} {count : ℕ} (d : Definition) (allowed : refusal busy count r.name ≡ None) (found : m r.name ≡ Some d) where
  plain_gives : (is : Bool) → is_late d.manner ≡ is → length d.value ≤ byte_limit → holds dollar d.value ≡ false → Gives m busy (Refers r) count (the (changed r.change d.value) (count + 1))
  plain_gives false at_once short none = itself allowed found at_once refl
  plain_gives true expanded short none = late allowed found expanded (unexpanded m (r.name ∷ busy) d.value (count + 1) short none) refl

  pub final_gives : IsFinal d → Gives m busy (Refers r) count (the (changed r.change d.value) (count + 1))
  final_gives (inl at_once) = itself allowed found at_once refl
  final_gives (inr plain) = plain_gives (is_late d.manner) refl plain.0 plain.1

module _ (P : Result (List ℕ) Reported → Type 0) where
  over_halts : (halt : Halt) (limit a : ℕ) → IsOver halt limit a → (limit < a → P (Err too_large)) → HaltsAmong halt P
  over_halts halts.Memory limit a over k = tt
  over_halts (halts.Fault f) limit a over k = subst (λ (g : Reported). P (Err g)) (sym over.0) (k over.1)

  refusal_halts : (halt : Halt) (r : Option Reported) → IsRefusal halt r → ((f : Reported) → r ≡ Some f → P (Err f)) → HaltsAmong halt P
  refusal_halts halts.Memory r is k = tt
  refusal_halts (halts.Fault f) r is k = k f is

  referred_halts : (o : Option Definition) (change : Option Change) (output : Output) (text : Text) (texts : List Text) (halt : Halt) → OutputHolds output text texts → IsOverReferred o change output halt
      → ((d : Definition) → o ≡ Some d → IsFinal d → byte_limit < length text.own + length (changed change d.value) → P (Err too_large)) → HaltsAmong halt P
  referred_halts None change output text texts halt holds is k = absurd is
  referred_halts (Some d) change output text texts halt holds is k = over_halts halt byte_limit _ (is.1 text texts holds) (k d refl is.0)

  passed_on : (result : Result (Vec ℕ Global) Halt) (halt : Halt) → IsErrAnd result (λ y. y ≡ halt) → HaltsAmong halt P → AnswersText result P
  passed_on result halt same h =
      let p = err_from_is_err_and result same in
      rw (p.1) (subst (λ (y : Halt). HaltsAmong y P) (sym p.2) h)

  pub over_answer : (result : Result (Vec ℕ Global) Halt) (halt : Halt) (limit a : ℕ) → IsErrAnd result (λ y. y ≡ halt) → IsOver halt limit a → (limit < a → P (Err too_large)) → AnswersText result P
  over_answer result halt limit a same over k = passed_on result halt same (over_halts halt limit a over k)

  pub refusal_answer : (result : Result (Vec ℕ Global) Halt) (halt : Halt) (r : Option Reported) → IsErrAnd result (λ y. y ≡ halt) → IsRefusal halt r → ((f : Reported) → r ≡ Some f → P (Err f)) → AnswersText result P
  refusal_answer result halt r same is k = passed_on result halt same (refusal_halts halt r is k)

  pub referred_answer : (result : Result (Vec ℕ Global) Halt) (halt : Halt) (o : Option Definition) (change : Option Change) (output : Output) (text : Text) (texts : List Text) → OutputHolds output text texts
      → IsErrAnd result (λ y. y ≡ halt) → IsOverReferred o change output halt
      → ((d : Definition) → o ≡ Some d → IsFinal d → byte_limit < length text.own + length (changed change d.value) → P (Err too_large)) → AnswersText result P
  referred_answer result halt o change output text texts holds same is k = passed_on result halt same (referred_halts o change output text texts halt holds is k)

-- the stack
pub top_is : (old new : List Open) (o : Open) → old ≡ new ++ o ∷ [] → reverse old ≡ o ∷ reverse new
top_is old new o e = ap reverse e ∙ reverse-append new (o ∷ [])

left_is : {m : Macros} {text : List ℕ} {output : Output} {left next : List Item} {count : ℕ} {opens : List Open} → left ≡ next → Stands m text opens output left count → Stands m text opens output next count
left_is {m} {text} {output} {left} {next} {count} {opens} e s = subst (λ (xs : List Item). Stands m text opens output xs count) e s

opens_are : {m : Macros} {text : List ℕ} {output : Output} {left : List Item} {count : ℕ} {opens next : List Open} → opens ≡ next → Stands m text opens output left count → Stands m text next output left count
opens_are {m} {text} {output} {left} {count} e s = subst (λ (os : List Open). Stands m text os output left count) e s

module _ {m : Macros} {text : List ℕ} {output : Output} {left : List Item} {count : ℕ} (opens : List Open) (s : Stands m text opens output (left) count) where
  -- bytes
  pub plain_on : (bytes behind : List ℕ) (after : Output) → left ≡ map Plain bytes ++ items_of behind → Puts output after bytes → Stands m text opens after (items_of behind) count
  plain_on bytes behind after e puts = bytes_on (items_of behind) opens bytes (left_is e s) after puts

  pub plain_over : (result : Result (Vec ℕ Global) Halt) (halt : Halt) (bytes behind : List ℕ) → left ≡ map Plain bytes ++ items_of behind → IsErrAnd result (λ y. y ≡ halt) → IsTooMuch output bytes halt
      → AnswersText result (IsExpansion m text)
  plain_over result halt bytes behind e same over =
      let now = left_is e s in
      over_answer (IsExpansion m text) result halt byte_limit _ same (over now.inner now.texts now.holds)
      (λ h. fault_answer m text too_large (bytes_too_long (items_of behind) opens bytes now h))

  -- a broken reference
  pub broken_fails : (later : List Item) → left ≡ Broken ∷ later → IsExpansion m text (Err (macro_fault BadReference []))
  broken_fails later e = fault_answer m text _ (fails opens (left_is e s) broken refl)

  module _ (r : Reference) (behind : List ℕ) (e : left ≡ Refers r ∷ items_of behind) where
    pub refused_fails : (f : Reported) → refusal (names opens) count r.name ≡ Some f → IsExpansion m text (Err f)
    refused_fails f is = fault_answer m text f (fails opens (left_is e s) (refused is) refl)

    module _ (allowed : refusal (names opens) count r.name ≡ None) where
      pub referred_over : (result : Result (Vec ℕ Global) Halt) (halt : Halt) → IsErrAnd result (λ y. y ≡ halt) → IsOverReferred (m r.name) r.change output halt → AnswersText result (IsExpansion m text)
      referred_over result halt same over =
          let now = left_is e s in
          referred_answer (IsExpansion m text) result halt (m r.name) r.change output now.inner now.texts now.holds same over
          (λ d found final h. fault_answer m text too_large (too_long opens (changed r.change d.value) now (final_gives d allowed found final) h))

      at_once : (o : Option Definition) (after : Output) → m r.name ≡ o → IsReferred o r.change output after None → Stands m text opens after (items_of behind) (count + 1)
      at_once None after found is =
          goes_on opens [] after (left_is e s) (undefined allowed found)
          (λ t ts holds. subst (λ (u : Text). OutputHolds after u ts) (nothing_more t) (subst (λ (out : Output). OutputHolds out t ts) (sym is) holds))
        where
          nothing_more : (t : Text) → t ≡ grown t []
          nothing_more t = ap (λ xs. record t { own = xs }) (sym (append-nil t.own))
      at_once (Some d) after found is = goes_on opens (changed r.change d.value) after (left_is e s) (final_gives d allowed found is.0) is.1

      pub referred_on : (after : Output) → IsReferred (m r.name) r.change output after None → Stands m text opens after (items_of behind) (count + 1)
      referred_on after is = at_once (m r.name) after refl is

      module _ (value : List ℕ) (between after : Output) (o : Open) (name_is : o.name.now ≡ r.name) (rest_is : o.rest.now ≡ behind)
          (opened : (t : Text) (ts : List Text) → OutputHolds between t ts → OutputHolds after (record { change = r.change; own = [] }) (t ∷ ts)) where
        inside : (found : Option Definition) → m r.name ≡ found → IsReferred found r.change output between (Some value) → Stands m text (o ∷ opens) after (items_of value) (count + 1)
        inside None found is = absurd is
        inside (Some d) found is =
            subst (λ (xs : List ℕ). Stands m text (o ∷ opens) after (items_of xs) (count + 1)) (sym is.1)
            (enters behind o d after (left_is e s) allowed found is.0 name_is rest_is (λ t ts holds. opened t ts (subst (λ (out : Output). OutputHolds out t ts) (sym is.2) holds)))

        pub referred_in : (old new : List Open) → opens ≡ reverse old → new ≡ old ++ o ∷ [] → IsReferred (m r.name) r.change output between (Some value) → Stands m text (reverse new) after (items_of value) (count + 1)
        referred_in old new was pushed is = opens_are (ap (λ os. o ∷ os) was ∙ sym (top_is new old o pushed)) (inside (m r.name) refl is)

-- the end of a value, and of the whole
module _ {m : Macros} {text : List ℕ} {output : Output} {left : List Item} {count : ℕ} (old new : List Open) (o : Open) (top : old ≡ new ++ o ∷ []) (none : left ≡ []) (s : Stands m text (reverse old) output (left) count) where
  closing : Stands m text (o ∷ reverse new) output [] count
  closing = left_is none (opens_are (top_is old new o top) s)

  closed_by : (after : Output) → ((t next : Text) (ts : List Text) → OutputHolds output t (next ∷ ts) → OutputHolds after (grown next (changed t.change t.own)) ts)
      → (texts : List Text) → Level m text (o ∷ reverse new) closing.inner.change texts closing.items closing.k → OutputHolds output closing.inner texts → Stands m text (reverse new) after (items_of o.rest.now) count
  closed_by after closed [] level holds = absurd level
  closed_by after closed (next ∷ texts) level holds = closes text o (reverse new) closing.items closing.k closing.inner next texts level closing.progress after (closed closing.inner next texts holds)

  pub closed_on : (after : Output) → ((t next : Text) (ts : List Text) → OutputHolds output t (next ∷ ts) → OutputHolds after (grown next (changed t.change t.own)) ts) → Stands m text (reverse new) after (items_of o.rest.now) count
  closed_on after closed = closed_by after closed closing.texts closing.level closing.holds

  module _ (result : Result (Vec ℕ Global) Halt) (halt : Halt) (same : IsErrAnd result (λ y. y ≡ halt))
      (over : (t next : Text) (ts : List Text) → OutputHolds output t (next ∷ ts) → IsOver halt byte_limit (length next.own + length (changed t.change t.own))) where
    over_by : (texts : List Text) → Level m text (o ∷ reverse new) closing.inner.change texts closing.items closing.k → OutputHolds output closing.inner texts → AnswersText result (IsExpansion m text)
    over_by [] level holds = absurd level
    over_by (next ∷ texts) level holds =
        over_answer (IsExpansion m text) result halt byte_limit _ same (over closing.inner next texts holds)
        (λ h. fault_answer m text too_large (closes_long text o (reverse new) closing.items closing.k closing.inner next texts level closing.progress h))

    pub closed_over : AnswersText result (IsExpansion m text)
    closed_over = over_by closing.texts closing.level closing.holds

pub ended : {m : Macros} {text : List ℕ} {output : Output} {left : List Item} {count : ℕ} (opens : List Open) (all : List ℕ) → reverse opens ≡ [] → left ≡ [] → ((t : Text) → OutputHolds output t [] → all ≡ t.own)
    → Stands m text (reverse opens) output left count → IsExpansion m text (Ok all)
ended {count = count} opens all empty none is s = record { outcome = the all count; expands = finishes all is (left_is none (opens_are empty s)); answers = refl }
