-- An expansion comes to one outcome.
use Rattle.std.proofs.Common.{◌≡◌, ℕ, ◌+◌, true, false, List, [], ◌∷◌, ◌++◌, Option, Some, None, Result, Ok, Err, refl, sym, ◌∙◌, ap, subst}
use Rattle.std.proofs.lemmas.Bool.{false≢true}
use Rattle.mk_name.specs.Names.{Name}
use Rattle.mk_name.specs.Reported.{Reported}
use Rattle.mk_macro.specs.Expansion.{Expanded, Expands, ExpansionResult, Gives, IsExpansion, is_late, joined, referred, text_of}
use Rattle.mk_macro.specs.Expansion.{nothing, failed, one_more, byte, broken, refused, undefined, itself, late}
use Rattle.mk_macro.specs.Macros.{Definition, Macros}
use Rattle.mk_macro.specs.Reference.{Item}
use Rattle.mk_macro.specs.References.{items_of}

-- lists with one more item at their ends
not_empty : {X : Type 0} (xs : List X) (x : X) → [] ≡ xs ++ x ∷ [] → ⊥
not_empty [] x e = cc
not_empty (y ∷ xs) x e = cc

same_front : {X : Type 0} (xs ys : List X) (x y : X) → xs ++ x ∷ [] ≡ ys ++ y ∷ [] → (xs ≡ ys) × (x ≡ y)
same_front [] [] x y e = (refl, (cc))
same_front [] (b ∷ ys) x y e = let t : [] ≡ ys ++ y ∷ [] = cc in absurd (not_empty ys y t)
same_front (a ∷ xs) [] x y e = let t : [] ≡ xs ++ x ∷ [] = cc in absurd (not_empty xs x t)
same_front (a ∷ xs) (b ∷ ys) x y e =
    let h : a ≡ b = cc in
    let t : xs ++ x ∷ [] ≡ ys ++ y ∷ [] = cc in
    let r = same_front xs ys x y t in
    (ap (λ z. z ∷ xs) h ∙ ap (λ zs. b ∷ zs) r.0, r.1)

some_none : {X : Type 0} {o : Option X} {x : X} → o ≡ Some x → o ≡ None → ⊥
some_none a b = cc

err_ok : {f : Reported} {e : Expanded} → ◌≡◌ {A = ExpansionResult} (Err f) (Ok e) → ⊥
err_ok e = cc

same_some : {X : Type 0} {o : Option X} {x y : X} → o ≡ Some x → o ≡ Some y → x ≡ y
same_some a b = cc

same_ok : {a b : Expanded} → ◌≡◌ {A = ExpansionResult} (Ok a) (Ok b) → a ≡ b
same_ok e = cc

along_items : {m : Macros} {busy : List Name} {xs ys : List Item} {count : ℕ} {o : ExpansionResult} → xs ≡ ys → Expands m busy ys count o → Expands m busy xs count o
along_items {m} {busy} {xs} {ys} {count} {o} e x = subst (λ (zs : List Item). Expands m busy zs count o) (sym e) x

along_given : {m : Macros} {busy : List Name} {x y : Item} {a b : ℕ} {o : ExpansionResult} → x ≡ y → a ≡ b → Gives m busy y b o → Gives m busy x a o
along_given {m} {busy} {x} {y} {a} {b} {o} e f g =
    subst (λ (z : Item). Gives m busy z a o) (sym e) (subst (λ (n : ℕ). Gives m busy y n o) (sym f) g)

apart : {d d2 : Definition} → d ≡ d2 → is_late d.manner ≡ false → is_late d2.manner ≡ true → ⊥
apart e now later = false≢true (sym now ∙ ap (λ (d : Definition). is_late d.manner) e ∙ later)

mutual
  items_unique : {m : Macros} {busy : List Name} {items : List Item} {count : ℕ} {one other : ExpansionResult} → Expands m busy items count one → Expands m busy items count other → one ≡ other
  items_unique nothing nothing = refl
  items_unique nothing (failed {items = ys} y e2 is2) = absurd (not_empty ys y is2)
  items_unique nothing (one_more {items = ys} {item = y} e2 g2 is2 o2) = absurd (not_empty ys y is2)
  items_unique (failed {items = xs} x e is) nothing = absurd (not_empty xs x is)
  items_unique (failed {items = xs} x e is) (failed {items = ys} y e2 is2) =
      let s = same_front xs ys x y (sym is ∙ is2) in items_unique e (along_items (s.0) e2)
  items_unique (failed {items = xs} x e is) (one_more {items = ys} {item = y} e2 g2 is2 o2) =
      let s = same_front xs ys x y (sym is ∙ is2) in absurd (err_ok (items_unique e (along_items (s.0) e2)))
  items_unique (one_more {items = xs} {item = x} e g is o) nothing = absurd (not_empty xs x is)
  items_unique (one_more {items = xs} {item = x} e g is o) (failed {items = ys} y e2 is2) =
      let s = same_front xs ys x y (sym is ∙ is2) in absurd (err_ok (sym (items_unique e (along_items (s.0) e2))))
  items_unique (one_more {items = xs} {item = x} {front = front} {given = given} e g is o) (one_more {items = ys} {item = y} {front = front2} {given = given2} e2 g2 is2 o2) =
      let s = same_front xs ys x y (sym is ∙ is2) in
      let f : front ≡ front2 = same_ok (items_unique e (along_items (s.0) e2)) in
      let h : given ≡ given2 = given_unique g (along_given (s.1) (ap (λ (z : Expanded). z.count) f) g2) in
      o ∙ ap (λ (z : ExpansionResult). joined front.text z) h ∙ ap (λ (z : Expanded). joined z.text given2) f ∙ sym o2

  given_unique : {m : Macros} {busy : List Name} {item : Item} {count : ℕ} {one other : ExpansionResult} → Gives m busy item count one → Gives m busy item count other → one ≡ other
  given_unique byte byte = refl
  given_unique broken broken = refl
  given_unique (refused a) (refused b) = ap Err (same_some a b)
  given_unique (refused a) (undefined b f) = absurd (some_none a b)
  given_unique (refused a) (itself b f l o) = absurd (some_none a b)
  given_unique (refused a) (late b f l e o) = absurd (some_none a b)
  given_unique (undefined a f) (refused b) = absurd (some_none b a)
  given_unique (undefined a f) (undefined b f2) = refl
  given_unique (undefined a f) (itself b f2 l o) = absurd (some_none f2 f)
  given_unique (undefined a f) (late b f2 l e o) = absurd (some_none f2 f)
  given_unique (itself a f l o) (refused b) = absurd (some_none b a)
  given_unique (itself a f l o) (undefined b f2) = absurd (some_none f f2)
  given_unique (itself {reference = r} {count = k} a f l o) (itself b f2 l2 o2) =
      o ∙ ap (λ (d : Definition). referred r (Ok (record { text = d.value; count = k + 1 }))) (same_some f f2) ∙ sym o2
  given_unique (itself a f l o) (late b f2 l2 e o2) = absurd (apart (same_some f f2) l l2)
  given_unique (late a f l e o) (refused b) = absurd (some_none b a)
  given_unique (late a f l e o) (undefined b f2) = absurd (some_none f f2)
  given_unique (late a f l e o) (itself b f2 l2 o2) = absurd (apart (same_some f2 f) l2 l)
  given_unique (late {reference = r} {count = k} a f l e o) (late b f2 l2 e2 o2) =
      o ∙ ap (λ (z : ExpansionResult). referred r z) (items_unique e (along_items (ap (λ (d : Definition). items_of d.value) (same_some f f2)) e2)) ∙ sym o2

pub items_come_to_one : (m : Macros) (busy : List Name) (items : List Item) (count : ℕ) (one other : ExpansionResult) → Expands m busy items count one → Expands m busy items count other → one ≡ other
items_come_to_one m busy items count one other e e2 = items_unique e e2

pub one_expansion : (m : Macros) (text : List ℕ) (one other : Result (List ℕ) Reported) → IsExpansion m text one → IsExpansion m text other → one ≡ other
one_expansion m text one other e e2 = e.answers ∙ ap text_of (items_unique e.expands e2.expands) ∙ sym e2.answers
