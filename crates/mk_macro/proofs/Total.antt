-- Each text has an expansion: a reference counts one, and no more than the limit count, so that values are expanded only so deep.
use Rattle.std.proofs.Common.{◌≡◌, ℕ, zero, suc, ◌+◌, ◌<◌, ◌≤◌, Bool, true, false, List, [], ◌∷◌, ◌++◌, length, Option, Some, None, Result, Ok, Err, refl, sym, subst, arith, append_assoc}
use Rattle.std.specs.Prelude.{if◌then◌else◌, nat_le, nat_lt}
use Rattle.std.proofs.lemmas.Bool.{leb-false}
use Rattle.std.proofs.lemmas.List.{append-nil}
use Rattle.mk_name.specs.Names.{Name, has, same_name}
use Rattle.mk_name.specs.Reported.{Reported}
use Rattle.mk_name.specs.declared.fault.Kind.TheVariants.{ExpansionTooLarge, InternalMacro, MacroLoop}
use Rattle.mk_macro.specs.Expansion.{Expands, ExpansionResult, Gives, IsExpansion, byte_limit, is_internal, is_late, joined, macro_fault, reference_limit, referred, refusal, text_of}
use Rattle.mk_macro.specs.Expansion.{nothing, failed, one_more, byte, broken, refused, undefined, itself, late}
use Rattle.mk_macro.specs.Macros.{Definition, Macros}
use Rattle.mk_macro.specs.Reference.{Item, Reference, Plain, Refers, Broken}
use Rattle.mk_macro.specs.References.{items_of}

-- an outcome counts no reference away
abbrev pub Rises : ℕ → ExpansionResult → Type 0
Rises count (Err fault) = Unit {0}
Rises count (Ok expanded) = count ≤ expanded.count

rises_further : (count more : ℕ) (o : ExpansionResult) → count ≤ more → Rises more o → Rises count o
rises_further count more (Err fault) le r = tt
rises_further count more (Ok expanded) le r = omega arith

joined_rises : (count : ℕ) (text : List ℕ) (given : ExpansionResult) → Rises count given → Rises count (joined text given)
joined_rises count text (Err fault) r = tt
joined_rises count text (Ok next) r = by (nat_lt byte_limit (length text + length next.text))
  where
    by : (b : Bool) → Rises count (if b then Err (macro_fault ExpansionTooLarge []) else Ok (record { text = text ++ next.text; count = next.count }))
    by true = tt
    by false = r

referred_rises : (count : ℕ) (reference : Reference) (o : ExpansionResult) → Rises count o → Rises count (referred reference o)
referred_rises count reference (Err fault) r = tt
referred_rises count reference (Ok expanded) r = r

-- a reference that is not refused is within the limit
few : (busy : List Name) (count : ℕ) (name : Name) → refusal busy count name ≡ None → count < reference_limit
few busy count name none = by (is_internal name) (nat_le reference_limit count) refl (has same_name busy name) none
  where
    by : (internal many : Bool) → many ≡ nat_le reference_limit count → (loops : Bool)
        → (if internal then Some (macro_fault InternalMacro (name ∷ [])) else (if many then Some (macro_fault ExpansionTooLarge []) else (if loops then Some (macro_fault MacroLoop (name ∷ [])) else None))) ≡ None
        → count < reference_limit
    by true many is loops none = absurd cc
    by false true is loops none = absurd cc
    by false false is loops none = leb-false reference_limit count (sym is)

module _ (m : Macros) where
  -- items, and one item, come to some outcome
  abbrev pub ItemsCome : List Name → List Item → ℕ → Type 0
  ItemsCome busy items count = (o : ExpansionResult) × Expands m busy items count o × Rises count o

  abbrev pub ItemGives : List Name → Item → ℕ → Type 0
  ItemGives busy item count = (o : ExpansionResult) × Gives m busy item count o × Rises count o

  -- behind so many references and more, up to the limit, all items come to some outcome
  abbrev pub Come : ℕ → Type 0
  Come least = (busy : List Name) (items : List Item) (count : ℕ) → least ≤ count → count ≤ reference_limit → ItemsCome busy items count

  module _ (least : ℕ) (inner : Come (least + 1)) where
    by_manner : (busy : List Name) (r : Reference) (count : ℕ) → least ≤ count → refusal busy count r.name ≡ None → (d : Definition) → m r.name ≡ Some d
        → (late_ : Bool) → is_late d.manner ≡ late_ → ItemGives busy (Refers r) count
    by_manner busy r count le none d found false l =
        (referred r (Ok (record { text = d.value; count = count + 1 })), itself none found l refl, omega arith)
    by_manner busy r count le none d found true l =
        let within = few busy count r.name none in
        let some = inner (r.name ∷ busy) (items_of d.value) (count + 1) (omega arith) (omega arith) in
        (referred r some.0, late none found l some.1 refl, referred_rises count r some.0 (rises_further count (count + 1) some.0 (omega arith) some.2))

    by_definition : (busy : List Name) (r : Reference) (count : ℕ) → least ≤ count → refusal busy count r.name ≡ None → (o : Option Definition) → m r.name ≡ o
        → ItemGives busy (Refers r) count
    by_definition busy r count le none None found = (Ok (record { text = []; count = count + 1 }), undefined none found, omega arith)
    by_definition busy r count le none (Some d) found = by_manner busy r count le none d found (is_late d.manner) refl

    by_refusal : (busy : List Name) (r : Reference) (count : ℕ) → least ≤ count → (o : Option Reported) → refusal busy count r.name ≡ o → ItemGives busy (Refers r) count
    by_refusal busy r count le (Some fault) is = (Err fault, refused is, tt)
    by_refusal busy r count le None is = by_definition busy r count le is (m r.name) refl

    gives : (busy : List Name) (item : Item) (count : ℕ) → least ≤ count → ItemGives busy item count
    gives busy (Plain b) count le = (Ok (record { text = b ∷ []; count = count }), byte, omega arith)
    gives busy (Refers r) count le = by_refusal busy r count le (refusal busy count r.name) refl
    gives busy Broken count le = (Err _, broken, tt)

    -- from what a front comes to, one item after another
    walk : (busy : List Name) (front back : List Item) (count : ℕ) → least ≤ count → ItemsCome busy front count → ItemsCome busy (front ++ back) count
    walk busy front [] count le some = subst (λ (items : List Item). ItemsCome busy items count) (sym (append-nil front)) some
    walk busy front (x ∷ back) count le some =
        subst (λ (items : List Item). ItemsCome busy items count) (append_assoc front (x ∷ []) back) (walk busy (front ++ x ∷ []) back count le (by some.0 some.1 some.2))
      where
        by : (o : ExpansionResult) → Expands m busy front count o → Rises count o → ItemsCome busy (front ++ x ∷ []) count
        by (Err fault) e r = (Err fault, failed x e refl, tt)
        by (Ok t) e r =
            let given = gives busy x t.count (omega arith) in
            (joined t.text given.0, one_more e given.1 refl refl, joined_rises count t.text given.0 (rises_further count t.count given.0 r given.2))

    items_from : Come least
    items_from busy items count le within = walk busy [] items count le (Ok (record { text = []; count = count }), nothing, omega arith)

  come : (k least : ℕ) → reference_limit < least + k → Come least
  come zero least more = λ busy items count le within. absurd (omega arith)
  come (suc k) least more = items_from least (come k (least + 1) (omega arith))

pub some_expansion : (m : Macros) (text : List ℕ) → (answer : Result (List ℕ) Reported) × IsExpansion m text answer
some_expansion m text =
    let some = come m (reference_limit + 1) 0 (omega arith) [] (items_of text) 0 (omega arith) (omega arith) in
    (text_of some.0, record { outcome = some.0; expands = some.1; answers = refl })
