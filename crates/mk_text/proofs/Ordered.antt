-- Names put in order are the same names.
use Rattle.std.proofs.Common.{◌≡◌, ℕ, Bool, true, false, ◌||◌, List, [], ◌∷◌, fold, sym, ap, ◌∙◌, refl}
use Rattle.std.specs.BTreeSet.{insert_key}
use Rattle.std.specs.Cmp.Lexicographic.{slice_cmp, texts_ties, nat_list_eq_equiv}
use Rattle.std.specs.declared.cmp.Ordering.{Ordering}
use Rattle.std.specs.declared.cmp.Ordering.TheVariants.{Less, Equal, Greater}
use Rattle.std.specs.Ordering.{nat_cmp, is_eq, match_ordering}
use Rattle.mk_text.specs.Listing.{in_order}
use Rattle.mk_name.specs.Names.{has, same_name}

or_same : (a b c : Bool) → a ≡ b → (b || c) ≡ (a || (b || c))
or_same true b c e = ap (λ x. x || c) (sym e)
or_same false b c e = refl

or_swap : (a b c : Bool) → (b || (a || c)) ≡ (a || (b || c))
or_swap true true c = refl
or_swap true false c = refl
or_swap false b c = refl

or_moved : (a b c : Bool) → ((a || b) || c) ≡ (b || (a || c))
or_moved true true c = refl
or_moved true false c = refl
or_moved false b c = refl

-- a name put in its place is there, and so are the others
has-insert_key : (ks : List (List ℕ)) (k name : List ℕ) → has same_name (insert_key (slice_cmp nat_cmp) ks k) name ≡ (same_name k name || has same_name ks name)
has-insert_key [] k name = refl
has-insert_key (x ∷ xs) k name = by (has-insert_key xs k name) (slice_cmp nat_cmp k x) refl
  where
    by : has same_name (insert_key (slice_cmp nat_cmp) xs k) name ≡ (same_name k name || has same_name xs name) → (o : Ordering) → slice_cmp nat_cmp k x ≡ o → has same_name (match_ordering o (k ∷ x ∷ xs) (x ∷ xs) (x ∷ insert_key (slice_cmp nat_cmp) xs k)) name ≡ (same_name k name || (same_name x name || has same_name xs name))
    by later Less e = refl
    by later Equal e = or_same (same_name k name) (same_name x name) (has same_name xs name) (nat_list_eq_equiv.congr k x name (texts_ties k x ∙ ap is_eq e))
    by later Greater e = ap (λ b. same_name x name || b) later ∙ or_swap (same_name k name) (same_name x name) (has same_name xs name)

has-fold : (names ks : List (List ℕ)) (name : List ℕ) → has same_name (fold (insert_key (slice_cmp nat_cmp)) ks names) name ≡ (has same_name ks name || has same_name names name)
has-fold [] ks name = or_none (has same_name ks name)
  where
    or_none : (a : Bool) → a ≡ (a || false)
    or_none true = refl
    or_none false = refl
has-fold (n ∷ ns) ks name =
    has-fold ns (insert_key (slice_cmp nat_cmp) ks n) name ∙ ap (λ b. b || has same_name ns name) (has-insert_key ks n name) ∙ or_moved (same_name n name) (has same_name ks name) (has same_name ns name)

-- the names in order have those that the list has
pub has-in_order : (names : List (List ℕ)) (name : List ℕ) → has same_name (in_order names) name ≡ has same_name names name
has-in_order names name = has-fold names [] name
