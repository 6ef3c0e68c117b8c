-- The least of the prerequisites of a node that is a or has a before it, and a chain that is built from its end.
use Rattle.std.proofs.Common.{ℕ, ◌≡◌, ◌<◌, ◌≤◌, ◌+◌, ◌-◌, ◌↔◌, List, [], ◌∷◌, ◌++◌, reverse, drop, get_or, length, Contains, refl, sym, ap, subst, ◌∙◌, inl, inr, arith}
use Rattle.std.specs.List.Sorted.{IsNonDecreasing}
use Rattle.std.proofs.lemmas.Bool.{cases_lt}
use Rattle.std.proofs.lemmas.List.{get_or-drop, get_or_default, length-drop, reverse-append}
use Rattle.mk_jobs.specs.Jobs.{Jobs, Before, IsPrerequisite, IsValid, node_count}
use Rattle.mk_jobs.specs.Chains.{last_of}
use Rattle.mk_jobs.proofs.JobsLemmas.{before_less}
use Rattle.mk_decide.specs.Chosen.{IsFirstFrom, IsLeastFrom, AreLeastFrom, IsChosen, NoneFrom}
use Rattle.mk_decide.specs.Paths.{IsFrom}
use Rattle.mk_decide.proofs.Edges.{prerequisite_from}

-- what is a or has a before it is not less than a
pub from_not_less : (jobs : Jobs) (a q : ℕ) → IsValid jobs → IsFrom jobs a q → a ≤ q
from_not_less jobs a q valid (inl same) = omega (arith, same)
from_not_less jobs a q valid (inr before) = omega (arith, before_less valid before)

-- the prerequisites of a node, rising, cut where those begin that are greater than a
module _ (jobs : Jobs) (a x place : ℕ) (needs : List ℕ) (valid : IsValid jobs) (rising : IsNonDecreasing needs) (same : (p : ℕ) → Contains needs p ↔ IsPrerequisite jobs p x)
    (less : (k : ℕ) → k < place → get_or needs k 0 < a) where
  -- one that is a or has a before it stands behind the cut
  behind_cut : (q : ℕ) → IsPrerequisite jobs q x → IsFrom jobs a q → (k : ℕ) × (k < length (drop place needs)) × (get_or (drop place needs) k 0 ≡ q)
  behind_cut q edge from =
      let there = (same q).1 edge in
      let here : get_or needs there.0 0 ≡ q = get_or_default needs there.0 0 q there.1 ∙ there.2 in
      let far = from_not_less jobs a q valid from in
      elim (cases_lt there.0 place) [
        | inl before ↦ absurd (let below = less there.0 before in omega (arith, below, here, far))
        | inr after ↦ (
          there.0 - place,
          omega (arith, there.1, after, length-drop place needs),
          get_or-drop place needs (there.0 - place) 0 ∙ ap (λ k. get_or needs k 0) (omega (arith, after)) ∙ here,
        )
      ]

  -- the first of those behind the cut is the least of all
  pub least_behind : (p : ℕ) → IsFirstFrom jobs a (drop place needs) p → IsLeastFrom jobs a p x
  least_behind p first =
      let long = length-drop place needs in
      let is : get_or needs (place + first.place) 0 ≡ p = sym (get_or-drop place needs first.place 0) ∙ first.is in
      let inside : place + first.place < length needs = omega (arith, first.there, long) in
      record {
        edge = (same p).0 (place + first.place, inside, get_or_default needs (place + first.place) p 0 inside ∙ is);
        from = first.from;
        least = λ q edge from.
            let there = behind_cut q edge from in
            elim (cases_lt there.0 first.place) [
              | inl before ↦ absurd (first.first there.0 before (subst (IsFrom jobs a) (sym there.2) from))
              | inr after ↦
                  let at : get_or needs (place + there.0) 0 ≡ q = sym (get_or-drop place needs there.0 0) ∙ there.2 in
                  let up = rising (place + first.place) (place + there.0) 0 (omega (arith, after)) (omega (arith, there.1, long)) in
                  omega (arith, up, is, at)
            ];
      }

  -- where there is none behind the cut, nothing comes before the node
  pub none_behind : NoneFrom jobs a (drop place needs) (length (drop place needs)) → Before jobs a x → ⊥
  none_behind none before =
      let last = prerequisite_from jobs a x before in
      let there = behind_cut last.node last.edge last.from in
      none there.0 there.1 (subst (IsFrom jobs a) (sym there.2) last.from)

-- a prerequisite that is a itself is the least
pub least_itself : (jobs : Jobs) (a x : ℕ) → IsValid jobs → IsPrerequisite jobs a x → IsLeastFrom jobs a a x
least_itself jobs a x valid edge = record { edge = edge; from = inl refl; least = λ q _ from. from_not_less jobs a q valid from }

-- a chain from a front node to b, backwards
pub record IsBuilt (jobs : Jobs) (a b front : ℕ) (nodes : List ℕ) : Type 0 where
  pub from : IsFrom jobs a front
  pub below : front < node_count jobs
  pub rest : List ℕ
  pub is : reverse nodes ≡ front ∷ rest
  pub least : AreLeastFrom jobs a front rest
  pub ends : last_of front rest ≡ b

pub built_one : (jobs : Jobs) (a b : ℕ) → Before jobs a b → b < node_count jobs → IsBuilt jobs a b b (b ∷ [])
built_one jobs a b before below = record { from = inr before; below = below; rest = []; is = refl; least = tt; ends = refl }

pub built_more : (jobs : Jobs) (a b front p : ℕ) (nodes : List ℕ) → IsValid jobs → IsBuilt jobs a b front nodes → IsLeastFrom jobs a p front
    → IsBuilt jobs a b p (nodes ++ p ∷ [])
built_more jobs a b front p nodes valid built step = record {
  from = step.from;
  below = omega (arith, valid.smaller front p step.edge, built.below);
  rest = front ∷ built.rest;
  is = reverse-append nodes (p ∷ []) ∙ ap (λ rest. p ∷ rest) built.is;
  least = (step, built.least);
  ends = built.ends;
}

front_is_first : (jobs : Jobs) (a front : ℕ) → IsFrom jobs a front → (Before jobs a front → ⊥) → front ≡ a
front_is_first jobs a front (inl same) last = same
front_is_first jobs a front (inr before) last = absurd (last before)

chosen_of : (jobs : Jobs) (a b : ℕ) (rest nodes : List ℕ) → IsValid jobs → Before jobs a b → nodes ≡ a ∷ rest → AreLeastFrom jobs a a rest → last_of a rest ≡ b → IsChosen jobs a b nodes
chosen_of jobs a b [] nodes valid before is least ends = absurd (omega (arith, before_less valid before, ends))
chosen_of jobs a b (next ∷ rest) nodes valid before is least ends = record { next = next; nodes = rest; is = is; least = least; ends = ends }

-- nothing is left that leads to the front
pub built_all : (jobs : Jobs) (a b front : ℕ) (nodes : List ℕ) → IsValid jobs → Before jobs a b → IsBuilt jobs a b front nodes → (Before jobs a front → ⊥)
    → IsChosen jobs a b (reverse nodes)
built_all jobs a b front nodes valid before built last =
    let same = front_is_first jobs a front built.from last in
    chosen_of jobs a b built.rest (reverse nodes) valid before (built.is ∙ ap (λ x. x ∷ built.rest) same)
    (subst (λ x. AreLeastFrom jobs a x built.rest) same built.least) (ap (λ x. last_of x built.rest) (sym same) ∙ built.ends)
