-- Searches by halves among chains that rise by their ends.
use Rattle.std.proofs.Common.{ℕ, suc, ◌≡◌, ◌<◌, ◌≤◌, ◌==◌, nat_lt, cond, Bool, true, false, List, [], length, get_or, map, Less, Equal, Greater, refl, sym, ap, ap₂, ◌∙◌, arith, inl, inr, eqb-true}
use Rattle.std.proofs.lemmas.Bool.{cases_eq, cases_lt}
use Rattle.std.proofs.lemmas.Cmp.{tied_itself}
use Rattle.std.proofs.lemmas.List.{get_or-map, get_or_default, length-map}
use Rattle.std.proofs.lemmas.Map.Keys.{Less-from_sorted}
use Rattle.std.specs.List.Sorted.{IsStrictlySortedBy}
use Rattle.std.specs.Ordering.{nat_cmp, ordering_reverse, ordering_then}
use Rattle.std.specs.declared.cmp.Ordering.{Ordering}
use Rattle.mk_proof.specs.Shapes.{ends_of, pair_cmp}
use Rattle.mk_proof.proofs.Risen.{pair_cmp_total}
use Rattle.mk_cert.specs.Certificates.{IsAtEnds}

-- the ends of the chain at a place
abbrev pub ends_at : List (List ℕ) → ℕ → ℕ × ℕ
ends_at chains k = ends_of (get_or chains k [])

-- where a search stands: the pair is not among the chains before `low`, nor among those from `high` on
pub record IsBetween (chains : List (List ℕ)) (pair : ℕ × ℕ) (low high : ℕ) : Type 0 where
  pub inside : high ≤ length chains
  pub below : (k : ℕ) → k < low → pair_cmp (ends_at chains k) pair ≡ Less
  pub above : (k : ℕ) → high ≤ k → k < length chains → pair_cmp (ends_at chains k) pair ≡ Greater

rising : (chains : List (List ℕ)) (i j : ℕ) → IsStrictlySortedBy pair_cmp (map ends_of chains) → i < j → j < length chains
    → pair_cmp (ends_at chains i) (ends_at chains j) ≡ Less
rising chains i j sorted less inside =
    let long = length-map chains ends_of in
    ap₂ pair_cmp (sym (get_or-map ends_of chains i [] (0, 0) (omega arith))) (sym (get_or-map ends_of chains j [] (0, 0) inside))
    ∙ Less-from_sorted pair_cmp (map ends_of chains) i j (0, 0) sorted less (omega (arith, long))

reversed : (p q : ℕ × ℕ) (o : Ordering) → pair_cmp q p ≡ o → pair_cmp p q ≡ ordering_reverse o
reversed p q o is = pair_cmp_total.antisymm p q ∙ ap ordering_reverse is

-- the chain in the middle comes before the pair
pub lower : (chains : List (List ℕ)) (pair : ℕ × ℕ) (low high middle next : ℕ) → IsStrictlySortedBy pair_cmp (map ends_of chains) → IsBetween chains pair low high
    → middle < high → next ≡ suc middle → pair_cmp (ends_at chains middle) pair ≡ Less → IsBetween chains pair next high
lower chains pair low high middle next sorted between inside is less = record {
  inside = between.inside;
  below = λ k before. elim (cases_eq k middle) [
    | inl same ↦ ap (λ i. pair_cmp (ends_at chains i) pair) same ∙ less
    | inr other ↦ pair_cmp_total.trans (ends_at chains k) (ends_at chains middle) pair
        (rising chains k middle sorted (omega arith) (omega (arith, between.inside))) less
  ];
  above = between.above;
}

-- it comes behind the pair
pub higher : (chains : List (List ℕ)) (pair : ℕ × ℕ) (low high middle : ℕ) → IsStrictlySortedBy pair_cmp (map ends_of chains) → IsBetween chains pair low high
    → middle < high → pair_cmp (ends_at chains middle) pair ≡ Greater → IsBetween chains pair low middle
higher chains pair low high middle sorted between inside more = record {
  inside = omega (arith, between.inside);
  below = between.below;
  above = λ k past within. elim (cases_eq k middle) [
    | inl same ↦ ap (λ i. pair_cmp (ends_at chains i) pair) same ∙ more
    | inr other ↦ reversed (ends_at chains k) pair Less
        (pair_cmp_total.trans pair (ends_at chains middle) (ends_at chains k) (reversed pair (ends_at chains middle) Greater more)
        (rising chains middle k sorted (omega arith) within))
  ];
}

nat_same : (m n : ℕ) (less even : Bool) → (m == n) ≡ even → cond less Less (cond even Equal Greater) ≡ Equal → m ≡ n
nat_same m n true even is same = cc
nat_same m n false true is same = eqb-true m n is
nat_same m n false false is same = cc

then_same : (a b : Ordering) → ordering_then a b ≡ Equal → (a ≡ Equal) × (b ≡ Equal)
then_same Less b same = cc
then_same Equal b same = (refl, same)
then_same Greater b same = cc

same_pair : (p q : ℕ × ℕ) → pair_cmp p q ≡ Equal → p ≡ q
same_pair p q same =
    let both = then_same (nat_cmp p.0 q.0) (nat_cmp p.1 q.1) same in
    ap₂ (λ (a b : ℕ). (a, b)) (nat_same p.0 q.0 (nat_lt p.0 q.0) (p.0 == q.0) refl both.0) (nat_same p.1 q.1 (nat_lt p.1 q.1) (p.1 == q.1) refl both.1)

-- it has the pair at its ends
pub found : (chains : List (List ℕ)) (a b middle : ℕ) → middle < length chains → pair_cmp (ends_at chains middle) (a, b) ≡ Equal → IsAtEnds chains a b
found chains a b middle inside same = (
  middle,
  let long = length-map chains ends_of in omega (arith, inside, long),
  get_or-map ends_of chains middle [] (a, b) inside ∙ same_pair (ends_at chains middle) (a, b) same,
)

-- nothing is left between
pub not_found : (chains : List (List ℕ)) (a b low high : ℕ) → IsBetween chains (a, b) low high → high ≤ low → IsAtEnds chains a b → ⊥
not_found chains a b low high between empty at =
    let long = length-map chains ends_of in
    let inside : at.0 < length chains = omega (arith, at.1, long) in
    let ends : ends_at chains at.0 ≡ (a, b) = sym (get_or-map ends_of chains at.0 [] (a, b) inside) ∙ at.2 in
    let tied : pair_cmp (ends_at chains at.0) (a, b) ≡ Equal = ap (λ (p : ℕ × ℕ). pair_cmp p (a, b)) ends ∙ tied_itself pair_cmp_total (a, b) in
    elim (cases_lt at.0 low) [
      | inl before ↦ cc (tied, between.below at.0 before)
      | inr past ↦ cc (tied, between.above at.0 (omega arith) inside)
    ]

-- how a chain that stands at a place compares with the pair
pub compared : (chains : List (List ℕ)) (pair : ℕ × ℕ) (middle : ℕ) (chain : List ℕ) (o : Ordering) → middle < length chains
    → chain ≡ get_or chains middle chain → o ≡ pair_cmp (ends_of chain) pair → pair_cmp (ends_at chains middle) pair ≡ o
compared chains pair middle chain o inside at is =
    ap (λ (ns : List ℕ). pair_cmp (ends_of ns) pair) (get_or_default chains middle [] chain inside ∙ sym at) ∙ sym is
