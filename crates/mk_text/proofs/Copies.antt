-- A set or a map whose keys are put in one by one, rising.
use Rattle.std.proofs.Common.{◌≡◌, Less, Greater, Ordering, List, [], ◌∷◌, ◌++◌, append_assoc, refl, sym, ap, ◌∙◌, subst}
use Rattle.std.specs.BTreeMap.{insert_entry}
use Rattle.std.specs.BTreeSet.{insert_key}
use Rattle.std.specs.Cmp.{IsTotalOrder}
use Rattle.std.specs.List.{AllByRecursion}
use Rattle.std.specs.List.Sorted.{IsStrictlySortedBy}
use Rattle.std.specs.Map.{keys_of}
use Rattle.std.specs.Ordering.{match_ordering, ordering_reverse}

-- what is so of each key of a list and of those behind it is so of the next one
next_is : {K : Type 0} (P : K → Type 0) (ks : List K) (k : K) (rest : List K) → AllByRecursion P (ks ++ k ∷ rest) → P k
next_is P [] k rest all = all.0
next_is P (x ∷ xs) k rest all = next_is P xs k rest all.1

next_key_is : {K X : Type 0} (P : K → Type 0) (es : List (K × X)) (k : K) (v : X) (rest : List (K × X))
    → AllByRecursion P (keys_of (es ++ (k, v) ∷ rest)) → P k
next_key_is P [] k v rest all = all.0
next_key_is P (e ∷ es) k v rest all = next_key_is P es k v rest all.1

-- a key that stands behind all others is put there
pub put_last : {K : Type 0} (c : K → K → Ordering) → IsTotalOrder c → (ks : List K) (k : K) (rest : List K)
    → IsStrictlySortedBy c (ks ++ k ∷ rest) → insert_key c ks k ≡ ks ++ k ∷ []
unfolding IsStrictlySortedBy
put_last c total [] k rest rise = refl
put_last c total (x ∷ xs) k rest rise =
    let more : c k x ≡ Greater = total.antisymm k x ∙ ap ordering_reverse (next_is (λ y. c x y ≡ Less) xs k rest rise.0) in
    ap (λ (o : Ordering). match_ordering o (k ∷ x ∷ xs) (x ∷ xs) (x ∷ insert_key c xs k)) more ∙ ap (λ ys. x ∷ ys) (put_last c total xs k rest rise.1)

-- with those that are left, the keys so far are all; and so they are with the next one
pub next_copied : {K : Type 0} (c : K → K → Ordering) → IsTotalOrder c → (copy new left rest all : List K) (k : K) → IsStrictlySortedBy c all
    → copy ++ left ≡ all → left ≡ k ∷ rest → new ≡ insert_key c copy k → new ++ rest ≡ all
next_copied c total copy new left rest all k rise so_far steps put =
    let whole : copy ++ k ∷ rest ≡ all = ap (λ ys. copy ++ ys) (sym steps) ∙ so_far in
    let last : insert_key c copy k ≡ copy ++ k ∷ [] = put_last c total copy k rest (subst (IsStrictlySortedBy c) (sym whole) rise) in
    ap (λ ys. ys ++ rest) (put ∙ last) ∙ append_assoc copy (k ∷ []) rest ∙ whole

-- an entry whose key stands behind all others is put there
put_entry_last : {K X : Type 0} (c : K → K → Ordering) → IsTotalOrder c → (es : List (K × X)) (k : K) (v : X) (rest : List (K × X))
    → IsStrictlySortedBy c (keys_of (es ++ (k, v) ∷ rest)) → insert_entry c es k v ≡ es ++ (k, v) ∷ []
unfolding IsStrictlySortedBy
put_entry_last c total [] k v rest rise = refl
put_entry_last {K} {X} c total (e ∷ es) k v rest rise =
    let more : c k e.0 ≡ Greater = total.antisymm k e.0 ∙ ap ordering_reverse (next_key_is (λ y. c e.0 y ≡ Less) es k v rest rise.0) in
    ap (λ (o : Ordering). match_ordering o ((k, v) ∷ e ∷ es) ((e.0, v) ∷ es) (e ∷ insert_entry c es k v)) more
    ∙ ap (λ ys. e ∷ ys) (put_entry_last c total es k v rest rise.1)

-- with those that are left, the entries so far are all; and so they are with the next one
pub next_entry_copied : {K X : Type 0} (c : K → K → Ordering) → IsTotalOrder c → (copy new left rest all : List (K × X)) (k : K) (v : X)
    → IsStrictlySortedBy c (keys_of all) → copy ++ left ≡ all → left ≡ (k, v) ∷ rest → new ≡ insert_entry c copy k v → new ++ rest ≡ all
next_entry_copied c total copy new left rest all k v rise so_far steps put =
    let whole : copy ++ (k, v) ∷ rest ≡ all = ap (λ ys. copy ++ ys) (sym steps) ∙ so_far in
    let last : insert_entry c copy k v ≡ copy ++ (k, v) ∷ [] =
    put_entry_last c total copy k v rest (subst (λ es. IsStrictlySortedBy c (keys_of es)) (sym whole) rise) in
    ap (λ ys. ys ++ rest) (put ∙ last) ∙ append_assoc copy ((k, v) ∷ []) rest ∙ whole
