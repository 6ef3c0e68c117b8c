-- The texts of an ordered table.
use Rattle.std.proofs.Common.{◌≡◌, Bool, true, false, cond, List, [], ◌∷◌, ◌++◌, Option, Some, None, refl, sym, ap, subst, ◌∙◌, ⊎_elim}
use Rattle.std.specs.Prelude.{IsSome}
use Rattle.std.specs.Option.{is_some, option_or}
use Rattle.std.specs.declared.cmp.Ordering.{Ordering}
use Rattle.std.specs.Map.{lookup, IsKeyTest, AreApart, KeepsOthers}
use Rattle.std.specs.BTreeMap.{BTreeMap, get_by, is_at, UpdatesBy}
use Rattle.std.specs.Ordering.{is_eq, nat_cmp}
use Rattle.std.specs.Cmp.{eq_by_cmp_equiv}
use Rattle.std.specs.Cmp.Lexicographic.{slice_cmp, bytes_decides, nat_list_cmp_total, nat_list_eq_equiv}
use Rattle.std.proofs.lemmas.Bool.{cases_Bool, cond-true, cond-false}
use Rattle.std.proofs.lemmas.Map.Text.{is_eq-slice_cmp}
use Rattle.mk_name.specs.Names.{Name, same_name}
use Rattle.mk_include.specs.Includes.{Cut, Named, texts_of}

abbrev pub compare : Name → Name → Ordering
compare name key = slice_cmp nat_cmp name key

-- a look-up in a table is one among the entries
pub look_up : {X : Type 0} (entries : List (Name × X)) (name : Name) → lookup (is_at (compare name)) entries ≡ lookup (same_name name) entries
look_up [] name = refl
look_up (e ∷ es) name =
    ap (λ b. cond b (Some e.1) (lookup (is_at (compare name)) es)) (is_eq-slice_cmp name e.0)
    ∙ ap (λ r. cond (same_name name e.0) (Some e.1) r) (look_up es name)

apart : (bs cs ks : Name) → same_name bs cs ≡ false → same_name bs ks ≡ true → same_name cs ks ≡ false
apart bs cs ks n y = nat_list_eq_equiv.symm cs ks ∙ sym (nat_list_eq_equiv.congr bs ks cs y) ∙ n

apart_in_order : (bs cs ks : Name) → same_name bs cs ≡ false → is_eq (slice_cmp nat_cmp bs ks) ≡ true → is_eq (slice_cmp nat_cmp cs ks) ≡ false
apart_in_order bs cs ks n y = is_eq-slice_cmp cs ks ∙ apart bs cs ks n (sym (is_eq-slice_cmp bs ks) ∙ y)

module _ {K : Type 0} (eq : K → K → Bool) (test : K → Bool) where
  other_entries : {X : Type 0} (old new : List (K × X)) → KeepsOthers eq test old new → (other : K → Bool) → IsKeyTest eq other → AreApart test other → lookup other new ≡ lookup other old
  unfolding KeepsOthers
  other_entries old new h = h

-- what holds at this name and at all others holds at each
by_name : (name : Name) {W : Type 0} (f g : Name → W) → f name ≡ g name → ((other : Name) → same_name name other ≡ false → f other ≡ g other) → (other : Name) → f other ≡ g other
by_name name f g here there other =
    ⊎_elim
    (λ (y : same_name name other ≡ true). subst (λ n. f n ≡ g n) ((bytes_decides name other).0 y) here)
    (λ (n : same_name name other ≡ false). there other n)
    (cases_Bool (same_name name other))

same_self : (name : Name) → same_name name name ≡ true
same_self name = (bytes_decides name name).1 refl

-- a list with one more at its end, looked up
look_up_end : {X : Type 0} (t : Name → Bool) (front : List (Name × X)) (name : Name) (x : X) → lookup t (front ++ (name, x) ∷ []) ≡ option_or (lookup t front) (cond (t name) (Some x) None)
look_up_end t [] name x = refl
look_up_end t (e ∷ es) name x =
    ⊎_elim
    (λ (y : t e.0 ≡ true).
    cond-true (t e.0) (Some e.1) (lookup t (es ++ (name, x) ∷ [])) y
    ∙ sym (ap (λ o. option_or o (cond (t name) (Some x) None)) (cond-true (t e.0) (Some e.1) (lookup t es) y)))
    (λ (n : t e.0 ≡ false).
    cond-false (t e.0) (Some e.1) (lookup t (es ++ (name, x) ∷ [])) n ∙ look_up_end t es name x
    ∙ sym (ap (λ o. option_or o (cond (t name) (Some x) None)) (cond-false (t e.0) (Some e.1) (lookup t es) n)))
    (cases_Bool (t e.0))

turned : (a b : Name) → same_name a b ≡ same_name b a
turned a b = nat_list_eq_equiv.symm a b

or_none : {X : Type 0} (o : Option X) → option_or o None ≡ o
or_none None = refl
or_none (Some x) = refl

or_some : {X : Type 0} (o p : Option X) → is_some o ≡ true → option_or o p ≡ o
or_some None p is = absurd (cc)
or_some (Some x) p is = refl

or_other : {X : Type 0} (o p : Option X) → is_some o ≡ false → option_or o p ≡ p
or_other None p is = refl
or_other (Some x) p is = absurd (cc)

-- the table of a name with a text, where it has none
pub text_added : (m n : BTreeMap Name Cut) (name : Name) (cut : Cut) → is_some (get_by (compare name) m) ≡ false → UpdatesBy (λ x y. slice_cmp nat_cmp x y) (compare name) m n (Some cut)
    → texts_of n.entries ≡ texts_of (m.entries ++ (name, cut) ∷ [])
text_added m n name cut none h = λ i other.
    by_name name (texts_of n.entries) (texts_of (m.entries ++ (name, cut) ∷ []))
    (sym (look_up n.entries name) ∙ h.1
    ∙ sym (look_up_end (same_name name) m.entries name cut
    ∙ or_other (lookup (same_name name) m.entries) _ (sym (ap is_some (look_up m.entries name)) ∙ none)
    ∙ cond-true (same_name name name) (Some cut) None (same_self name)))
    (λ other e.
    sym (look_up n.entries other)
    ∙ other_entries _ _ _ _ h.3 _ (λ x y. (eq_by_cmp_equiv nat_list_cmp_total).congr other x y) (λ k. apart_in_order name other k e)
    ∙ look_up m.entries other
    ∙ sym (look_up_end (same_name other) m.entries name cut
    ∙ ap (option_or (lookup (same_name other) m.entries)) (cond-false (same_name other name) (Some cut) None (turned other name ∙ e))
    ∙ or_none (lookup (same_name other) m.entries)))
    other i

-- a name that has a text keeps it
pub text_kept : (m : BTreeMap Name Cut) (name : Name) (cut : Cut) → is_some (get_by (compare name) m) ≡ true → texts_of m.entries ≡ texts_of (m.entries ++ (name, cut) ∷ [])
text_kept m name cut some = λ i other.
    by_name name (texts_of m.entries) (texts_of (m.entries ++ (name, cut) ∷ []))
    (sym (look_up_end (same_name name) m.entries name cut
    ∙ or_some (lookup (same_name name) m.entries) _ (sym (ap is_some (look_up m.entries name)) ∙ some)))
    (λ other e.
    sym (look_up_end (same_name other) m.entries name cut
    ∙ ap (option_or (lookup (same_name other) m.entries)) (cond-false (same_name other name) (Some cut) None (turned other name ∙ e))
    ∙ or_none (lookup (same_name other) m.entries)))
    other i

-- the same texts, and one more behind them
pub texts_more : (xs ys : Named) (name : Name) (cut : Cut) → texts_of xs ≡ texts_of ys → texts_of (xs ++ (name, cut) ∷ []) ≡ texts_of (ys ++ (name, cut) ∷ [])
texts_more xs ys name cut same = λ i other.
    (look_up_end (same_name other) xs name cut
    ∙ ap (λ t. option_or (t other) (cond (same_name other name) (Some cut) None)) same
    ∙ sym (look_up_end (same_name other) ys name cut)) i
