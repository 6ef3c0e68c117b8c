-- Lists that rise, and one more at their end.
use Rattle.std.proofs.Common.{◌≡◌, ◌==◌, nat_lt, cond, Bool, true, false, ℕ, ◌+◌, ◌-◌, ◌<◌, ◌≤◌, ◌⊎◌, inl, inr, Some, List, [], ◌∷◌, ◌++◌, length, map, get_or, Less, Equal, Greater, refl, sym, ap, ap₂, ◌∙◌, subst, arith}
use Rattle.std.proofs.lemmas.Bool.{cases_lt, false≢true, le-ltb, lt-ltb, true≢false}
use Rattle.std.proofs.lemmas.Cmp.{nat_cmp_total, on_total, then_total}
use Rattle.std.proofs.lemmas.List.{get_or-map, get_or_append_left, get_or_default, get_or_push, length-append, length-map, length_push, map_push, nil_from_length}
use Rattle.std.proofs.lemmas.List.Elements.{All-head, All-push, All-tail, All-cons, All-nil, All-weaker}
use Rattle.std.proofs.lemmas.Map.Keys.{Less-from_sorted, below_from_sorted, sorted_from_all_adjacent}
use Rattle.std.specs.Cmp.{IsTotalOrder}
use Rattle.std.specs.List.{All}
use Rattle.std.specs.List.Sorted.{IsStrictlySortedBy}
use Rattle.std.specs.Map.{keys_of}
use Rattle.std.specs.Ordering.{is_lt, is_some_and, nat_cmp, ordering_then, partial_ordering_then}
use Rattle.std.specs.declared.cmp.Ordering.{Ordering}
use Rattle.mk_proof.specs.Drafts.{IsShort}
use Rattle.mk_proof.specs.Shapes.{AreShapedChains, IsShapedChain, ends_of, greatest_node, most_chains, pair_cmp}

pub pair_cmp_total : IsTotalOrder pair_cmp
pair_cmp_total = then_total (on_total (λ (p : ℕ × ℕ). p.0) nat_cmp_total) (on_total (λ (p : ℕ × ℕ). p.1) nat_cmp_total)

-- at each place
pushed_at : {K : Type 0} (R : K → K → Ordering) (xs : List K) (y : K) → IsStrictlySortedBy R xs → (0 < length xs → R (get_or xs (length xs - 1) y) y ≡ Less)
    → (k : ℕ) → k < length xs → (k + 1 < length xs) ⊎ (length xs ≤ k + 1) → R (get_or (xs ++ y ∷ []) k y) (get_or (xs ++ y ∷ []) (k + 1) y) ≡ Less
pushed_at R xs y sorted above k inside (inl within) =
    ap₂ R (get_or_append_left xs (y ∷ []) y k inside) (get_or_append_left xs (y ∷ []) y (k + 1) within) ∙ Less-from_sorted R xs k (k + 1) y sorted (omega arith) within
pushed_at R xs y sorted above k inside (inr past) =
    let at : k ≡ length xs - 1 = omega arith in
    ap₂ R (get_or_append_left xs (y ∷ []) y k inside ∙ ap (λ n. get_or xs n y) at) (get_or_push xs y y (k + 1) (omega arith)) ∙ above (omega arith)

-- one more, which the last is below
pub sorted_push : {K : Type 0} (R : K → K → Ordering) → IsTotalOrder R → (xs : List K) (y : K) → IsStrictlySortedBy R xs
    → (0 < length xs → R (get_or xs (length xs - 1) y) y ≡ Less) → IsStrictlySortedBy R (xs ++ y ∷ [])
sorted_push R total xs y sorted above =
    let long = length_push xs y in
    sorted_from_all_adjacent total (xs ++ y ∷ []) y (λ k inside. pushed_at R xs y sorted above k (omega arith) (cases_lt (k + 1) (length xs)))

-- the last is below one more
pub last_below : {K : Type 0} (R : K → K → Ordering) (xs : List K) (y : K) → IsStrictlySortedBy R (xs ++ y ∷ []) → 0 < length xs
    → R (get_or xs (length xs - 1) y) y ≡ Less
last_below R xs y sorted some =
    let long = length_push xs y in
    ap₂ R (sym (get_or_append_left xs (y ∷ []) y (length xs - 1) (omega arith))) (sym (get_or_push xs y y (length xs) refl))
    ∙ Less-from_sorted R (xs ++ y ∷ []) (length xs - 1) (length xs) y sorted (omega arith) (omega arith)

none_sorted : {K : Type 0} (R : K → K → Ordering) → IsStrictlySortedBy R []
unfolding IsStrictlySortedBy
none_sorted R = tt

-- the front of a list that rises
pub sorted_front : {K : Type 0} (R : K → K → Ordering) → IsTotalOrder R → (xs ys : List K) → IsStrictlySortedBy R (xs ++ ys) → IsStrictlySortedBy R xs
sorted_front R total [] ys sorted = none_sorted R
sorted_front R total (x ∷ xs) ys sorted =
    sorted_from_all_adjacent total (x ∷ xs) x (λ k inside. ap₂ R (sym (get_or_append_left (x ∷ xs) ys x k (omega arith))) (sym (get_or_append_left (x ∷ xs) ys x (k + 1) inside))
    ∙ Less-from_sorted R ((x ∷ xs) ++ ys) k (k + 1) x sorted (omega arith) (let long = length-append (x ∷ xs) ys in omega arith))

-- ---- each of a list, and one more

pub All-front : {X : Type 0} (P : X → Type 0) (xs ys : List X) → All P (xs ++ ys) → All P xs
All-front P [] ys all = All-nil P
All-front P (x ∷ xs) ys all = All-cons P x xs (All-head P x (xs ++ ys) all) (All-front P xs ys (All-tail P x (xs ++ ys) all))

pub All-behind : {X : Type 0} (P : X → Type 0) (xs ys : List X) → All P (xs ++ ys) → All P ys
All-behind P [] ys all = all
All-behind P (x ∷ xs) ys all = All-behind P xs ys (All-tail P x (xs ++ ys) all)

pub All-last : {X : Type 0} (P : X → Type 0) (xs : List X) (y : X) → All P (xs ++ y ∷ []) → P y
All-last P xs y all = All-head P y [] (All-behind P xs (y ∷ []) all)

-- ---- orders

not_less : (b e : Bool) → b ≡ false → cond b Less (cond e Equal Greater) ≡ Less → ⊥
not_less true e is same = true≢false is
not_less false true is same = cc
not_less false false is same = cc

compared : (m n : ℕ) → (m < n) ⊎ (n ≤ m) → nat_cmp m n ≡ Less → m < n
compared m n (inl low) is = low
compared m n (inr high) is = absurd (not_less (nat_lt m n) (m == n) (le-ltb m n high) is)

lt_less : (o : Ordering) → is_lt o ≡ true → o ≡ Less
lt_less Less is = refl
lt_less Equal is = absurd (false≢true is)
lt_less Greater is = absurd (false≢true is)

less : (m n : ℕ) → nat_lt m n ≡ true → nat_cmp m n ≡ Less
less m n is = ap (λ b. cond b Less (cond (m == n) Equal Greater)) is

less_back : (m n : ℕ) → nat_cmp m n ≡ Less → nat_lt m n ≡ true
less_back m n is = lt-ltb m n (compared m n (cases_lt m n) is)

-- ---- the ends of chains

last_end : (chains : List (List ℕ)) (chain : List ℕ) → 0 < length chains
    → get_or (map ends_of chains) (length (map ends_of chains) - 1) (ends_of chain) ≡ ends_of (get_or chains (length chains - 1) chain)
last_end chains chain some =
    ap (λ n. get_or (map ends_of chains) (n - 1) (ends_of chain)) (length-map chains ends_of) ∙ get_or-map ends_of chains (length chains - 1) chain (ends_of chain) (omega arith)

-- a chain more, above the last
pub ends_push : (chains : List (List ℕ)) (chain : List ℕ) → IsStrictlySortedBy pair_cmp (map ends_of chains)
    → (0 < length chains → pair_cmp (ends_of (get_or chains (length chains - 1) chain)) (ends_of chain) ≡ Less) → IsStrictlySortedBy pair_cmp (map ends_of (chains ++ chain ∷ []))
ends_push chains chain sorted above =
    let long = length-map chains ends_of in
    subst (IsStrictlySortedBy pair_cmp) (sym (map_push ends_of chains chain))
    (sorted_push pair_cmp pair_cmp_total (map ends_of chains) (ends_of chain) sorted
    (λ some. ap (λ (p : ℕ × ℕ). pair_cmp p (ends_of chain)) (last_end chains chain (omega arith)) ∙ above (omega arith)))

pub ends_above : (chains : List (List ℕ)) (chain : List ℕ) → 0 < length chains → IsStrictlySortedBy pair_cmp (map ends_of (chains ++ chain ∷ []))
    → pair_cmp (ends_of (get_or chains (length chains - 1) chain)) (ends_of chain) ≡ Less
ends_above chains chain some sorted =
    let long = length-map chains ends_of in
    ap (λ (p : ℕ × ℕ). pair_cmp p (ends_of chain)) (sym (last_end chains chain some))
    ∙ last_below pair_cmp (map ends_of chains) (ends_of chain) (subst (IsStrictlySortedBy pair_cmp) (map_push ends_of chains chain) sorted) (omega arith)

-- as two pairs are compared
pub pairs_lt : (a b : Ordering) → is_some_and is_lt (partial_ordering_then (Some a) (Some b)) ≡ is_lt (ordering_then a b)
pairs_lt Less b = refl
pairs_lt Equal b = refl
pairs_lt Greater b = refl

-- the answer that compares the ends of the last chain with those of another
pub ends_answer : (chains : List (List ℕ)) (chain last : List ℕ) (b : Bool) → IsStrictlySortedBy pair_cmp (map ends_of chains) → 0 < length chains
    → last ≡ get_or chains (length chains - 1) last → b ≡ is_lt (pair_cmp (ends_of last) (ends_of chain))
    → ((b ≡ true) → IsStrictlySortedBy pair_cmp (map ends_of (chains ++ chain ∷ []))) × (IsStrictlySortedBy pair_cmp (map ends_of (chains ++ chain ∷ [])) → b ≡ true)
ends_answer chains chain last b sorted some at is =
    let same : get_or chains (length chains - 1) chain ≡ last = get_or_default chains (length chains - 1) chain last (omega arith) ∙ sym at in (
      λ below. ends_push chains chain sorted (λ _. ap (λ (xs : List ℕ). pair_cmp (ends_of xs) (ends_of chain)) same ∙ lt_less (pair_cmp (ends_of last) (ends_of chain)) (sym is ∙ below)),
      λ all. is ∙ ap is_lt (ap (λ (xs : List ℕ). pair_cmp (ends_of xs) (ends_of chain)) (sym same) ∙ ends_above chains chain some all),
    )

-- ---- chains that have the shape

pub no_chains : AreShapedChains []
no_chains = record { few = omega arith; each = All-nil IsShapedChain; rise = none_sorted pair_cmp }

pub chains_push : (chains : List (List ℕ)) (chain : List ℕ) → AreShapedChains chains → length chains < most_chains → IsShapedChain chain
    → IsStrictlySortedBy pair_cmp (map ends_of (chains ++ chain ∷ [])) → AreShapedChains (chains ++ chain ∷ [])
chains_push chains chain shaped few one rise = record {
  few = let long = length_push chains chain in omega arith;
  each = All-push IsShapedChain chains chain shaped.each one;
  rise = rise;
}

-- the numbers of a chain are at most its last
below_last : (chain : List ℕ) (k d : ℕ) → 2 ≤ length chain → get_or chain (length chain - 1) 0 ≤ greatest_node → IsStrictlySortedBy nat_cmp chain → k < length chain
    → (k < length chain - 1) ⊎ (length chain - 1 ≤ k) → get_or chain k d ≤ greatest_node
below_last chain k d long last sorted inside (inl before) =
    let up = below_from_sorted chain k (length chain - 1) d sorted before (omega arith) in
    let same = get_or_default chain (length chain - 1) d 0 (omega arith) in
    omega arith
below_last chain k d long last sorted inside (inr past) =
    let at : k ≡ length chain - 1 = omega arith in
    let same = ap (λ n. get_or chain n d) at ∙ get_or_default chain (length chain - 1) d 0 (omega arith) in
    omega arith

pub chain_shaped : (chain : List ℕ) → 2 ≤ length chain → get_or chain (length chain - 1) 0 ≤ greatest_node → IsStrictlySortedBy nat_cmp chain → IsShapedChain chain
chain_shaped chain long last sorted = record {
  long = long;
  rises = sorted;
  nodes = λ k d inside. below_last chain k d long last sorted inside (cases_lt k (length chain - 1));
}

-- ---- numbers, and one more

pub number_answer : (times : List (ℕ × ℕ)) (node : ℕ) (last : ℕ × ℕ) → IsStrictlySortedBy nat_cmp (keys_of times) → 0 < length times
    → last ≡ get_or times (length times - 1) last
    → ((nat_lt last.0 node ≡ true) → IsStrictlySortedBy nat_cmp (keys_of times ++ node ∷ [])) × (IsStrictlySortedBy nat_cmp (keys_of times ++ node ∷ []) → nat_lt last.0 node ≡ true)
number_answer times node last sorted some at =
    let long = length-map times (λ (t : ℕ × ℕ). t.0) in
    let same : get_or (keys_of times) (length (keys_of times) - 1) node ≡ last.0 =
    ap (λ n. get_or (keys_of times) (n - 1) node) long ∙ get_or-map (λ (t : ℕ × ℕ). t.0) times (length times - 1) last node (omega arith) ∙ ap (λ (t : ℕ × ℕ). t.0) (sym at) in (
      λ below. sorted_push nat_cmp nat_cmp_total (keys_of times) node sorted (λ _. ap (λ n. nat_cmp n node) same ∙ less last.0 node below),
      λ all. less_back last.0 node (ap (λ n. nat_cmp n node) (sym same) ∙ last_below nat_cmp (keys_of times) node all (omega arith)),
    )

pub number_first : (times : List (ℕ × ℕ)) (node : ℕ) → length times ≡ 0 → IsStrictlySortedBy nat_cmp (keys_of times ++ node ∷ [])
number_first times node none =
    let nothing : keys_of times ≡ [] = ap (map (λ (t : ℕ × ℕ). t.0)) (nil_from_length times none) in
    subst (λ (ks : List ℕ). IsStrictlySortedBy nat_cmp (ks ++ node ∷ [])) (sym nothing) (sorted_push nat_cmp nat_cmp_total [] node (none_sorted nat_cmp) (λ some. absurd (omega arith)))

-- the numbers of the last chain are short
pub last_short : (chains : List (List ℕ)) (chain : List ℕ) → AreShapedChains (chains ++ chain ∷ []) → All IsShort chain
last_short chains chain shaped =
    All-weaker (λ n. n ≤ greatest_node) IsShort (λ n small. omega arith) chain (All-last IsShapedChain chains chain shaped.each).nodes
