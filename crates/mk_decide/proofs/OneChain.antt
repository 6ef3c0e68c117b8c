-- Two chosen chains between the same nodes are one.
use Rattle.std.proofs.Common.{ℕ, ◌≡◌, ◌<◌, List, [], ◌∷◌, length, refl, sym, ap, ap₂, subst, ◌∙◌, inl, inr, arith}
use Rattle.std.proofs.lemmas.Bool.{cases_order, cases_lt}
use Rattle.mk_jobs.specs.Jobs.{Jobs, IsValid}
use Rattle.mk_jobs.specs.Chains.{last_of, IsEdgeByEdge}
use Rattle.mk_decide.specs.Chosen.{IsLeastFrom, AreLeastFrom, ChosenIsOne, ChosenIsChain}

edges_of : (jobs : Jobs) (a p : ℕ) (nodes : List ℕ) → AreLeastFrom jobs a p nodes → IsEdgeByEdge jobs p nodes
edges_of jobs a p [] least = tt
edges_of jobs a p (x ∷ nodes) least = (least.0.edge, edges_of jobs a x nodes least.1)

pub chosen_is_chain : ChosenIsChain
chosen_is_chain jobs a b chain chosen =
    (record { next = chosen.next; nodes = chosen.nodes; edges = edges_of jobs a a (chosen.next ∷ chosen.nodes) chosen.least; ends = chosen.ends }, chosen.is)

-- the least one is one alone
one_least : (jobs : Jobs) (a p q x y : ℕ) → x ≡ y → IsLeastFrom jobs a p x → IsLeastFrom jobs a q y → p ≡ q
one_least jobs a p q x y same first second =
    let other : IsLeastFrom jobs a q x = subst (IsLeastFrom jobs a q) (sym same) second in
    omega (arith, first.least q other.edge other.from, other.least p first.edge first.from)

-- two lists with one last node and one length
same_length : (jobs : Jobs) (a x y : ℕ) (xs ys : List ℕ) → AreLeastFrom jobs a x xs → AreLeastFrom jobs a y ys → last_of x xs ≡ last_of y ys
    → length xs ≡ length ys → (x ≡ y) × (xs ≡ ys)
same_length jobs a x y [] [] first second ends long = (ends, refl)
same_length jobs a x y [] (q ∷ ys) first second ends long = absurd (omega arith)
same_length jobs a x y (p ∷ xs) [] first second ends long = absurd (omega arith)
same_length jobs a x y (p ∷ xs) (q ∷ ys) first second ends long =
    let rest = same_length jobs a p q xs ys first.1 second.1 ends (omega arith) in
    (one_least jobs a x y p q rest.0 first.0 second.0, ap₂ (λ n ns. n ∷ ns) rest.0 rest.1)

-- the longer one begins at a smaller number
longer_less : (jobs : Jobs) (a x y : ℕ) (xs ys : List ℕ) → IsValid jobs → AreLeastFrom jobs a x xs → AreLeastFrom jobs a y ys → last_of x xs ≡ last_of y ys
    → length xs < length ys → y < x
longer_less jobs a x y xs [] valid first second ends long = absurd (omega arith)
longer_less jobs a x y xs (q ∷ ys) valid first second ends long =
    let step = valid.smaller q y second.0.edge in
    elim (cases_lt (length xs) (length ys)) [
      | inl more ↦ omega (arith, step, longer_less jobs a x q xs ys valid first second.1 ends more)
      | inr less ↦ omega (arith, step, (same_length jobs a x q xs ys first second.1 ends (omega (arith, long, less))).0)
    ]

pub chosen_is_one : ChosenIsOne
chosen_is_one jobs a b chain other valid first second =
    let xs = first.next ∷ first.nodes in
    let ys = second.next ∷ second.nodes in
    let ends : last_of a xs ≡ last_of a ys = first.ends ∙ sym second.ends in
    let long : length xs ≡ length ys = elim (cases_order (length xs) (length ys)) [
      | inl same ↦ same
      | inr (inl less) ↦ absurd (omega (arith, longer_less jobs a a a xs ys valid first.least second.least ends less))
      | inr (inr more) ↦ absurd (omega (arith, longer_less jobs a a a ys xs valid second.least first.least (sym ends) more))
    ] in
    first.is ∙ ap (λ nodes. a ∷ nodes) (same_length jobs a a a xs ys first.least second.least ends long).1 ∙ sym second.is
