-- The steps of an expansion: what its stack, its output and what is left of a text stand for.
use Rattle.std.proofs.Common.{◌≡◌, ℕ, ◌+◌, ◌<◌, ◌≤◌, inl, inr, true, List, [], ◌∷◌, ◌++◌, Option, Some, None, Ok, Err, length, map, refl, sym, ◌∙◌, ap, subst, arith, append_assoc, length-append}
use Rattle.std.proofs.lemmas.Bool.{cases_lt, le-ltb, lt-ltb}
use Rattle.std.proofs.lemmas.List.{append-nil}
use Rattle.mk_name.specs.Names.{Name}
use Rattle.mk_name.specs.Reported.{Reported}
use Rattle.mk_name.specs.declared.fault.Kind.TheVariants.{ExpansionTooLarge}
use Rattle.mk_macro.specs.declared.open.Open.{Open}
use Rattle.mk_macro.specs.Expansion.{Expands, ExpansionResult, Gives, byte_limit, is_late, joined, macro_fault, refusal}
use Rattle.mk_macro.specs.Expansion.{nothing, failed, one_more, byte, late}
use Rattle.mk_macro.specs.Layer.{Output, OutputHolds, Puts, Text, grown}
use Rattle.mk_macro.specs.Macros.{Definition, Macros}
use Rattle.mk_macro.specs.Reference.{Change, Item, Reference, Plain, Refers}
use Rattle.mk_macro.specs.References.{items_of}
use Rattle.mk_macro.specs.Substitution.{changed}

-- the names of the open macros, the last first
abbrev pub names : List Open → List Name
names opens = map (λ o. o.name.now) opens

abbrev pub the : List ℕ → ℕ → ExpansionResult
the text count = Ok (record { text = text; count = count })

abbrev pub too_large : Reported
too_large = macro_fault ExpansionTooLarge []

-- some items are done, and these are left
pub record Progress (m : Macros) (busy : List Name) (items : List Item) (k : ℕ) (own : List ℕ) (count : ℕ) (left : List Item) : Type 0 where
  pub seen : List Item
  pub all : items ≡ seen ++ left
  pub so_far : Expands m busy seen k (the own count)

-- what stands around an open macro
pub record Outer : Type 0 where
  pub items : List Item
  pub k : ℕ
  pub count : ℕ
  pub definition : Definition

pub record IsOpened (m : Macros) (o : Open) (opens : List Open) (change : Option Change) (own : List ℕ) (items : List Item) (k : ℕ) (outer : Outer) : Type 0 where
  pub found : m o.name.now ≡ Some outer.definition
  pub is_late_one : is_late outer.definition.manner ≡ true
  pub items_are : items ≡ items_of outer.definition.value
  pub k_is : k ≡ outer.count + 1
  pub allowed : refusal (names opens) outer.count o.name.now ≡ None
  pub progress : Progress m (names opens) outer.items outer.k own outer.count (Refers (record { name = o.name.now; change = change }) ∷ items_of o.rest.now)

-- the items of a text that goes on with this substitution, inside these open macros
abbrev pub Level : Macros → List ℕ → List Open → Option Change → List Text → List Item → ℕ → Type 0
Level m text [] change [] items k = (items ≡ items_of text) × (k ≡ 0)
Level m text [] change (next ∷ texts) items k = ⊥
Level m text (o ∷ opens) change [] items k = ⊥
Level m text (o ∷ opens) change (next ∷ texts) items k =
    (outer : Outer) × IsOpened m o opens change next.own items k outer × Level m text opens next.change texts outer.items outer.k

-- where an expansion stands
pub record Stands (m : Macros) (text : List ℕ) (opens : List Open) (output : Output) (left : List Item) (count : ℕ) : Type 0 where
  pub items : List Item
  pub k : ℕ
  pub inner : Text
  pub texts : List Text
  pub level : Level m text opens inner.change texts items k
  pub progress : Progress m (names opens) items k inner.own count left
  pub holds : OutputHolds output inner texts

-- a fault stays, whatever follows
fault_stays : {m : Macros} {busy : List Name} {k : ℕ} {f : Reported} (seen left : List Item) → Expands m busy seen k (Err f) → Expands m busy (seen ++ left) k (Err f)
fault_stays {m} {busy} {k} {f} seen [] e = subst (λ (items : List Item). Expands m busy items k (Err f)) (sym (append-nil seen)) e
fault_stays {m} {busy} {k} {f} seen (x ∷ left) e =
    subst (λ (items : List Item). Expands m busy items k (Err f)) (append_assoc seen (x ∷ []) left) (fault_stays (seen ++ x ∷ []) left (failed x e refl))

-- one more item
more_seen : {m : Macros} {busy : List Name} {items left : List Item} {item : Item} {k count : ℕ} {own : List ℕ} {given outcome : ExpansionResult}
    (p : Progress m busy items k own count (item ∷ left)) → Gives m busy item count given → outcome ≡ joined own given
    → Expands m busy (p.seen ++ item ∷ []) k outcome
more_seen p g e = one_more p.so_far g refl e

item_fault : {m : Macros} {busy : List Name} {items left : List Item} {item : Item} {k count : ℕ} {own : List ℕ} {given : ExpansionResult} {f : Reported}
    → Progress m busy items k own count (item ∷ left) → Gives m busy item count given → joined own given ≡ Err f → Expands m busy items k (Err f)
item_fault {m} {busy} {items} {left} {item} {k} {f = f} p g e =
    subst (λ (xs : List Item). Expands m busy xs k (Err f)) (append_assoc p.seen (item ∷ []) left ∙ sym p.all)
    (fault_stays (p.seen ++ item ∷ []) left (more_seen p g (sym e)))

-- a fault inside is a fault of the whole
level_fault : {m : Macros} {f : Reported} (text : List ℕ) (opens : List Open) (change : Option Change) (texts : List Text) (items : List Item) (k : ℕ)
    → Level m text opens change texts items k → Expands m (names opens) items k (Err f) → Expands m [] (items_of text) 0 (Err f)
level_fault {m} {f} text [] change [] items k l e =
    subst (λ (n : ℕ). Expands m [] (items_of text) n (Err f)) l.1 (subst (λ (xs : List Item). Expands m [] xs k (Err f)) l.0 e)
level_fault text [] change (next ∷ texts) items k l e = absurd l
level_fault text (o ∷ opens) change [] items k l e = absurd l
level_fault {m} {f} text (o ∷ opens) change (next ∷ texts) items k l e =
    let is = l.1 in
    let value = l.0.definition.value in
    let inner : Expands m (names (o ∷ opens)) (items_of value) (l.0.count + 1) (Err f) =
    subst (λ (n : ℕ). Expands m (names (o ∷ opens)) (items_of value) n (Err f)) is.k_is (subst (λ (xs : List Item). Expands m (names (o ∷ opens)) xs k (Err f)) is.items_are e) in
    level_fault text opens next.change texts l.0.items l.0.k l.2 (item_fault is.progress (late is.allowed is.found is.is_late_one inner refl) refl)

-- an item fails
pub fails : {m : Macros} {text : List ℕ} {output : Output} {left : List Item} {item : Item} {count : ℕ} {given : ExpansionResult} {f : Reported} (opens : List Open)
    (s : Stands m text opens output (item ∷ left) count) → Gives m (names opens) item count given → joined s.inner.own given ≡ Err f → Expands m [] (items_of text) 0 (Err f)
fails {text = text} opens s g e = level_fault text opens s.inner.change s.texts s.items s.k s.level (item_fault s.progress g e)

joined_long : (own text : List ℕ) (count : ℕ) → byte_limit < length own + length text → joined own (the text count) ≡ Err too_large
joined_long own text count h = rw (lt-ltb byte_limit (length own + length text) h) refl

joined_short : (own text : List ℕ) (count : ℕ) → length own + length text ≤ byte_limit → joined own (the text count) ≡ the (own ++ text) count
joined_short own text count h = rw (le-ltb byte_limit (length own + length text) h) refl

-- an item gives too much
pub too_long : {m : Macros} {text : List ℕ} {output : Output} {left : List Item} {item : Item} {count next : ℕ} (opens : List Open) (given : List ℕ)
    (s : Stands m text opens output (item ∷ left) count) → Gives m (names opens) item count (the given next) → byte_limit < length s.inner.own + length given
    → Expands m [] (items_of text) 0 (Err too_large)
too_long {next = next} opens given s g h = fails opens s g (joined_long s.inner.own given next h)

-- some items give a text
run_done : {m : Macros} {text : List ℕ} {left : List Item} {count next : ℕ} (opens : List Open) (items : List Item) (k : ℕ) (inner : Text) (texts : List Text) (given : List ℕ) (after : Output) (run : List Item)
    → Level m text opens inner.change texts items k → (p : Progress m (names opens) items k inner.own count (run ++ left))
    → (length inner.own + length given ≤ byte_limit → Expands m (names opens) (p.seen ++ run) k (the (inner.own ++ given) next)) → OutputHolds after (grown inner given) texts
    → Stands m text opens after left next
run_done {left = left} opens items k inner texts given after run level p so_far holds =
    let within = holds.within in
    let is = holds.size_is in
    let parts = length-append inner.own given in
    record {
      items = items;
      k = k;
      inner = grown inner given;
      texts = texts;
      level = level;
      progress = record {
        seen = p.seen ++ run;
        all = p.all ∙ sym (append_assoc p.seen run left);
        so_far = so_far (omega arith);
      };
      holds = holds;
    }

-- one item does
gives_more : {m : Macros} {text : List ℕ} {left : List Item} {item : Item} {count next : ℕ} (opens : List Open) (items : List Item) (k : ℕ) (inner : Text) (texts : List Text) (given : List ℕ) (after : Output)
    → Level m text opens inner.change texts items k → Progress m (names opens) items k inner.own count (item ∷ left) → Gives m (names opens) item count (the given next) → OutputHolds after (grown inner given) texts
    → Stands m text opens after left next
gives_more {item = item} {next = next} opens items k inner texts given after level p g holds =
    run_done opens items k inner texts given after (item ∷ []) level p (λ short. more_seen p g (sym (joined_short inner.own given next short))) holds

pub goes_on : {m : Macros} {text : List ℕ} {output : Output} {left : List Item} {item : Item} {count next : ℕ} (opens : List Open) (given : List ℕ) (after : Output)
    → Stands m text opens output (item ∷ left) count → Gives m (names opens) item count (the given next) → Puts output after given → Stands m text opens after left next
goes_on opens given after s g puts = gives_more opens s.items s.k s.inner s.texts given after s.level s.progress g (puts s.inner s.texts s.holds)

-- bytes that stand for themselves, an item each
module _ {m : Macros} {busy : List Name} {k count : ℕ} where
  byte_seen : (seen : List Item) (own : List ℕ) (b : ℕ) → Expands m busy seen k (the own count) → length own + 1 ≤ byte_limit → Expands m busy (seen ++ Plain b ∷ []) k (the (own ++ b ∷ []) count)
  byte_seen seen own b e short = one_more e byte refl (sym (joined_short own (b ∷ []) count short))

  pub bytes_seen : (seen : List Item) (own bytes : List ℕ) → Expands m busy seen k (the own count) → length own + length bytes ≤ byte_limit → Expands m busy (seen ++ map Plain bytes) k (the (own ++ bytes) count)
  bytes_seen seen own [] e short =
      subst (λ (items : List Item). Expands m busy items k (the (own ++ []) count)) (sym (append-nil seen)) (subst (λ (xs : List ℕ). Expands m busy seen k (the xs count)) (sym (append-nil own)) e)
  bytes_seen seen own (b ∷ bytes) e short =
      let parts = length-append own (b ∷ []) in
      subst (λ (items : List Item). Expands m busy items k (the (own ++ b ∷ bytes) count)) (append_assoc seen (Plain b ∷ []) (map Plain bytes))
      (subst (λ (xs : List ℕ). Expands m busy ((seen ++ Plain b ∷ []) ++ map Plain bytes) k (the xs count)) (append_assoc own (b ∷ []) bytes)
      (bytes_seen (seen ++ Plain b ∷ []) (own ++ b ∷ []) bytes (byte_seen seen own b e (omega arith)) (omega arith)))

  bytes_over : (seen : List Item) (own bytes : List ℕ) → Expands m busy seen k (the own count) → length own ≤ byte_limit → byte_limit < length own + length bytes → Expands m busy (seen ++ map Plain bytes) k (Err too_large)
  bytes_over seen own [] e short long = absurd (omega arith)
  bytes_over seen own (b ∷ bytes) e short long =
      let parts = length-append own (b ∷ []) in
      subst (λ (items : List Item). Expands m busy items k (Err too_large)) (append_assoc seen (Plain b ∷ []) (map Plain bytes))
      (elim (cases_lt byte_limit (length own + 1)) [
        | inl over ↦ fault_stays (seen ++ Plain b ∷ []) (map Plain bytes) (one_more e byte refl (sym (joined_long own (b ∷ []) count over)))
        | inr fits ↦ bytes_over (seen ++ Plain b ∷ []) (own ++ b ∷ []) bytes (byte_seen seen own b e fits) (omega arith) (omega arith)
      ])

module _ {m : Macros} {text : List ℕ} {output : Output} {count : ℕ} (left : List Item) (opens : List Open) (bytes : List ℕ) (s : Stands m text opens output (map Plain bytes ++ left) count) where
  pub bytes_on : (after : Output) → Puts output after bytes → Stands m text opens after left count
  bytes_on after puts =
      run_done opens s.items s.k s.inner s.texts bytes after (map Plain bytes) s.level s.progress
      (λ short. bytes_seen s.progress.seen s.inner.own bytes s.progress.so_far short) (puts s.inner s.texts s.holds)

  pub bytes_too_long : byte_limit < length s.inner.own + length bytes → Expands m [] (items_of text) 0 (Err too_large)
  bytes_too_long long =
      let p = s.progress in
      let is = s.holds.size_is in
      let within = s.holds.within in
      level_fault text opens s.inner.change s.texts s.items s.k s.level
      (subst (λ (items : List Item). Expands m (names opens) items s.k (Err too_large)) (append_assoc p.seen (map Plain bytes) left ∙ sym p.all)
      (fault_stays (p.seen ++ map Plain bytes) left (bytes_over p.seen s.inner.own bytes p.so_far (omega arith) long)))

-- the beginning
pub begins : (m : Macros) (text : List ℕ) (output : Output) → OutputHolds output (record { change = None; own = [] }) [] → Stands m text [] output (items_of text) 0
begins m text output holds = record {
  items = items_of text;
  k = 0;
  inner = record { change = None; own = [] };
  texts = [];
  level = (refl, refl);
  progress = record { seen = []; all = refl; so_far = nothing };
  holds = holds;
}

-- a value is expanded for a reference
pub enters : {m : Macros} {text : List ℕ} {output : Output} {reference : Reference} {count : ℕ} {opens : List Open} (rest : List ℕ) (o : Open) (d : Definition) (after : Output)
    → Stands m text opens output (Refers reference ∷ items_of rest) count → refusal (names opens) count reference.name ≡ None → m reference.name ≡ Some d → is_late d.manner ≡ true
    → o.name.now ≡ reference.name → o.rest.now ≡ rest → ((t : Text) (ts : List Text) → OutputHolds output t ts → OutputHolds after (record { change = reference.change; own = [] }) (t ∷ ts))
    → Stands m text (o ∷ opens) after (items_of d.value) (count + 1)
enters {m} {text} {output} {reference} {count} {opens} rest o d after s allowed found kept_late same behind opened = record {
  items = items_of d.value;
  k = count + 1;
  inner = record { change = reference.change; own = [] };
  texts = s.inner ∷ s.texts;
  level = (
    record { items = s.items; k = s.k; count = count; definition = d },
    record {
      found = ap m same ∙ found;
      is_late_one = kept_late;
      items_are = refl;
      k_is = refl;
      allowed = ap (λ name. refusal (names opens) count name) same ∙ allowed;
      progress = subst (λ (left : List Item). Progress m (names opens) s.items s.k s.inner.own count left)
          (ap (λ name. Refers (record { name = name; change = reference.change }) ∷ items_of rest) (sym same) ∙ ap (λ xs. Refers (record { name = o.name.now; change = reference.change }) ∷ items_of xs) (sym behind)) s.progress;
    },
    s.level,
  );
  progress = record { seen = []; all = refl; so_far = nothing };
  holds = opened s.inner s.texts s.holds;
}

-- the whole is done
pub finishes : {m : Macros} {text : List ℕ} {output : Output} {count : ℕ} (all : List ℕ) → ((t : Text) → OutputHolds output t [] → all ≡ t.own) → Stands m text [] output [] count → Expands m [] (items_of text) 0 (the all count)
finishes {m} {text} {output} {count} all is s = done s.texts s.level s.holds
  where
    done : (texts : List Text) → Level m text [] s.inner.change texts s.items s.k → OutputHolds output s.inner texts → Expands m [] (items_of text) 0 (the all count)
    done [] level holds =
        let whole : s.progress.seen ≡ items_of text = sym (append-nil s.progress.seen) ∙ sym s.progress.all ∙ level.0 in
        subst (λ (n : ℕ). Expands m [] (items_of text) n (the all count)) level.1
        (subst (λ (xs : List Item). Expands m [] xs s.k (the all count)) whole
        (subst (λ (xs : List ℕ). Expands m [] s.progress.seen s.k (the xs count)) (sym (is s.inner holds)) s.progress.so_far))
    done (next ∷ texts) level holds = absurd level

-- a value is expanded, and its reference with it
module _ {m : Macros} (text : List ℕ) {count : ℕ} (o : Open) (opens : List Open) (items : List Item) (k : ℕ) (inner next : Text) (texts : List Text)
    (level : Level m text (o ∷ opens) inner.change (next ∷ texts) items k) (p : Progress m (names (o ∷ opens)) items k inner.own count []) where
  outer_given : Gives m (names opens) (Refers (record { name = o.name.now; change = inner.change })) level.0.count (the (changed inner.change inner.own) count)
  outer_given =
      let is = level.1 in
      let value = level.0.definition.value in
      let whole : p.seen ≡ items_of value = sym (append-nil p.seen) ∙ sym p.all ∙ is.items_are in
      late is.allowed is.found is.is_late_one
      (subst (λ (n : ℕ). Expands m (names (o ∷ opens)) (items_of value) n (the inner.own count)) is.k_is
      (subst (λ (xs : List Item). Expands m (names (o ∷ opens)) xs k (the inner.own count)) whole p.so_far)) refl

  pub closes : (after : Output) → OutputHolds after (grown next (changed inner.change inner.own)) texts → Stands m text opens after (items_of o.rest.now) count
  closes after holds =
      gives_more opens level.0.items level.0.k next texts (changed inner.change inner.own) after level.2 level.1.progress outer_given holds

  pub closes_long : byte_limit < length next.own + length (changed inner.change inner.own) → Expands m [] (items_of text) 0 (Err too_large)
  closes_long h =
      level_fault text opens next.change texts level.0.items level.0.k level.2
      (item_fault level.1.progress outer_given (joined_long next.own (changed inner.change inner.own) count h))
