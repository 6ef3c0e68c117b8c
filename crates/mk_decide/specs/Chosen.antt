-- Which of several chains of edges is chosen.
use Rattle.std.specs.Prelude.{ℕ, ◌≡◌, ◌<◌, ◌≤◌, List, [], ◌∷◌, get_or, length}
use Rattle.mk_jobs.specs.Jobs.{Jobs, IsPrerequisite, IsValid}
use Rattle.mk_jobs.specs.Chains.{last_of, ChainTo}
use Rattle.mk_decide.specs.Paths.{IsFrom}

-- p is the least of the prerequisites of x to which a itself, or a chain from a, leads
pub record IsLeastFrom (jobs : Jobs) (a p x : ℕ) : Type 0 where
  pub edge : IsPrerequisite jobs p x
  pub from : IsFrom jobs a p
  pub least : (q : ℕ) → IsPrerequisite jobs q x → IsFrom jobs a q → p ≤ q

-- none of the first of some nodes is a or has a before it
abbrev pub NoneFrom : Jobs → ℕ → List ℕ → ℕ → Type 0
NoneFrom jobs a nodes end = (k : ℕ) → k < end → IsFrom jobs a (get_or nodes k 0) → ⊥

-- p is the first of some nodes that is a or has a before it
pub record IsFirstFrom (jobs : Jobs) (a : ℕ) (nodes : List ℕ) (p : ℕ) : Type 0 where
  pub place : ℕ
  pub there : place < length nodes
  pub is : get_or nodes place 0 ≡ p
  pub from : IsFrom jobs a p
  pub first : NoneFrom jobs a nodes place

-- each of these nodes has that prerequisite right in front of it
abbrev pub AreLeastFrom : Jobs → ℕ → ℕ → List ℕ → Type 0
AreLeastFrom jobs a p [] = Unit {0}
AreLeastFrom jobs a p (x ∷ nodes) = IsLeastFrom jobs a p x × AreLeastFrom jobs a x nodes

-- the chosen chain from a to b: of two or more nodes, the first a and the last b, and in front of each other one stands the
-- least of its prerequisites that is a or has a before it
pub record IsChosen (jobs : Jobs) (a b : ℕ) (chain : List ℕ) : Type 0 where
  pub next : ℕ
  pub nodes : List ℕ
  pub is : chain ≡ a ∷ (next ∷ nodes)
  pub least : AreLeastFrom jobs a a (next ∷ nodes)
  pub ends : last_of next nodes ≡ b

-- from one node to another there is one chosen chain at most
abbrev pub ChosenIsOne : Type 0
ChosenIsOne = (jobs : Jobs) (a b : ℕ) (first second : List ℕ) → IsValid jobs → IsChosen jobs a b first → IsChosen jobs a b second → first ≡ second

-- the chosen chain goes edge by edge
abbrev pub ChosenIsChain : Type 0
ChosenIsChain = (jobs : Jobs) (a b : ℕ) (chain : List ℕ) → IsChosen jobs a b chain
    → (edges : ChainTo jobs a b) × (chain ≡ a ∷ (edges.next ∷ edges.nodes))
