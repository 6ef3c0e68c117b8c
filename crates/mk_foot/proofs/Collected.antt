-- Paths that are collected at once are those that are put in one by one.
use Rattle.std.proofs.Common.{◌≡◌, Less, Equal, Greater, Ordering, Bool, true, false, ◌||◌, List, [], ◌∷◌, ◌++◌, append_assoc, fold, refl, subst, sym, ap, ◌∙◌}
use Rattle.std.specs.BTreeSet.{BTreeSet, IsFromIterResult, insert_key}
use Rattle.std.specs.List.{AllByRecursion, list_any}
use Rattle.std.specs.List.Sorted.{IsStrictlySortedBy}
use Rattle.std.specs.Ordering.{eq_by_cmp, match_ordering, ordering_reverse}
use Rattle.std.proofs.Math.Bool.{or_assoc, or_comm}
use Rattle.std.proofs.lemmas.List.{append-nil}
use Rattle.std.proofs.lemmas.Map.Lookups.{btree_set_from_contains}
use Rattle.mk_path.specs.declared.path.Path.{Path}
use Rattle.mk_text.proofs.Copies.{put_last}
use Rattle.mk_path.specs.Paths.{path_cmp}
use Rattle.mk_path.proofs.PathOrder.{path_cmp_total}
use Rattle.mk_path.proofs.Numbering.{equal_path_is}

abbrev same : Path → Path → Bool
same = eq_by_cmp path_cmp

or_none : (a : Bool) → a ≡ (a || false)
or_none true = refl
or_none false = refl

or_same : (a b c : Bool) → a ≡ b → (b || c) ≡ (a || (b || c))
or_same true b c e = ap (λ x. x || c) (sym e)
or_same false b c e = refl

or_swap : (a b c : Bool) → (b || (a || c)) ≡ (a || (b || c))
or_swap a b c = sym (or_assoc b a c) ∙ ap (λ x. x || c) (or_comm b a) ∙ or_assoc a b c

-- a path put in its place is there, and so are the others
has-put : (ps : List Path) (p q : Path) → list_any (same q) (insert_key path_cmp ps p) ≡ (same q p || list_any (same q) ps)
has-put [] p q = refl
has-put (x ∷ xs) p q = by (path_cmp p x) refl (has-put xs p q)
  where
    by : (o : Ordering) → path_cmp p x ≡ o → list_any (same q) (insert_key path_cmp xs p) ≡ (same q p || list_any (same q) xs)
        → list_any (same q) (match_ordering o (p ∷ x ∷ xs) (x ∷ xs) (x ∷ insert_key path_cmp xs p)) ≡ (same q p || (same q x || list_any (same q) xs))
    by Less e later = refl
    by Equal e later = or_same (same q p) (same q x) (list_any (same q) xs) (ap (same q) (equal_path_is p x e))
    by Greater e later = ap (λ b. same q x || b) later ∙ or_swap (same q p) (same q x) (list_any (same q) xs)

has-all : (more ps : List Path) (q : Path) → list_any (same q) (fold (insert_key path_cmp) ps more) ≡ (list_any (same q) more || list_any (same q) ps)
has-all [] ps q = refl
has-all (p ∷ more) ps q =
    has-all more (insert_key path_cmp ps p) q ∙ ap (λ b. list_any (same q) more || b) (has-put ps p q)
    ∙ sym (or_assoc (list_any (same q) more) (same q p) (list_any (same q) ps)) ∙ ap (λ b. b || list_any (same q) ps) (or_comm (list_any (same q) more) (same q p))

lower : (p x : Path) (xs : List Path) → path_cmp p x ≡ Less → AllByRecursion (λ y. path_cmp x y ≡ Less) xs → AllByRecursion (λ y. path_cmp p y ≡ Less) xs
lower p x [] below all = tt
lower p x (y ∷ ys) below all = (path_cmp_total.trans p x y below all.0, lower p x ys below all.1)

above : (p x : Path) (xs : List Path) → path_cmp p x ≡ Greater → AllByRecursion (λ y. path_cmp x y ≡ Less) xs → AllByRecursion (λ y. path_cmp x y ≡ Less) (insert_key path_cmp xs p)
above p x [] more all = (path_cmp_total.antisymm x p ∙ ap ordering_reverse more, tt)
above p x (y ∷ ys) more all = by (path_cmp p y) (above p x ys more all.1)
  where
    by : (o : Ordering) → AllByRecursion (λ y. path_cmp x y ≡ Less) (insert_key path_cmp ys p)
        → AllByRecursion (λ y. path_cmp x y ≡ Less) (match_ordering o (p ∷ y ∷ ys) (y ∷ ys) (y ∷ insert_key path_cmp ys p))
    by Less later = (path_cmp_total.antisymm x p ∙ ap ordering_reverse more, all)
    by Equal later = all
    by Greater later = (all.0, later)

rise-put : (ps : List Path) (p : Path) → IsStrictlySortedBy path_cmp ps → IsStrictlySortedBy path_cmp (insert_key path_cmp ps p)
unfolding IsStrictlySortedBy
rise-put [] p rise = (tt, tt)
rise-put (x ∷ xs) p rise = by (path_cmp p x) refl (rise-put xs p rise.1)
  where
    by : (o : Ordering) → path_cmp p x ≡ o → IsStrictlySortedBy path_cmp (insert_key path_cmp xs p)
        → IsStrictlySortedBy path_cmp (match_ordering o (p ∷ x ∷ xs) (x ∷ xs) (x ∷ insert_key path_cmp xs p))
    by Less e later = ((e, lower p x xs e rise.0), rise)
    by Equal e later = rise
    by Greater e later = (above p x xs e rise.0, later)

rise-all : (more ps : List Path) → IsStrictlySortedBy path_cmp ps → IsStrictlySortedBy path_cmp (fold (insert_key path_cmp) ps more)
rise-all [] ps rise = rise
rise-all (p ∷ more) ps rise = rise-all more (insert_key path_cmp ps p) (rise-put ps p rise)

rise-none : IsStrictlySortedBy path_cmp []
unfolding IsStrictlySortedBy
rise-none = tt

-- a set that was collected
pub collected : (more : List Path) (set : BTreeSet Path) → IsFromIterResult path_cmp more set → set.keys ≡ fold (insert_key path_cmp) [] more
collected more set is =
    btree_set_from_contains path_cmp_total set (record { keys = fold (insert_key path_cmp) [] more }) is.1 (rise-all more [] rise-none)
    (λ q. is.0 q ∙ or_none (list_any (same q) more) ∙ sym (has-all more [] q)) equal_path_is

-- paths that rise are put in one behind the other
all_last : (ps more : List Path) → IsStrictlySortedBy path_cmp (ps ++ more) → fold (insert_key path_cmp) ps more ≡ ps ++ more
all_last ps [] rise = sym (append-nil ps)
all_last ps (p ∷ more) rise =
    ap (λ (qs : List Path). fold (insert_key path_cmp) qs more) (put_last path_cmp path_cmp_total ps p more rise)
    ∙ all_last (ps ++ p ∷ []) more (subst (IsStrictlySortedBy path_cmp) (sym (append_assoc ps (p ∷ []) more)) rise) ∙ append_assoc ps (p ∷ []) more

-- so a set of them has just these
pub risen : (more : List Path) → IsStrictlySortedBy path_cmp more → fold (insert_key path_cmp) [] more ≡ more
risen more rise = all_last [] more rise
