-- Lemmas on jobs that were made again.
use Rattle.std.proofs.Common.{ℕ, ◌≡◌, ◌<◌, ◌≤◌, ◌+◌, ◌↔◌, ◌&&◌, Bool, true, List, [], All, Contains, eqb, length, get_or, refl, sym, subst, inl, inr, arith}
use Rattle.std.proofs.lemmas.Bool.{cases_eq, cases_lt}
use Rattle.std.proofs.lemmas.List.{get_or_default}
use Rattle.std.proofs.lemmas.List.Folds.{list_any_at}
use Rattle.std.proofs.lemmas.Map.Views.{Contains-from_any}
use Rattle.std.proofs.lemmas.Option.{slice_get_past}
use Rattle.mk_name.specs.Names.{has}
use Rattle.mk_jobs.specs.Jobs.{Jobs, IsPrerequisite, has_commands, has_recipe, maker_of, node_count, prerequisites_of}
use Rattle.mk_decide.proofs.Paired.{pair_equal, pair_equiv}

-- all so far, and one more
pub all_more : (P : ℕ → Type 0) (i : ℕ) → ((k : ℕ) → k < i → P k) → P i → (k : ℕ) → k < i + 1 → P k
all_more P i all here k below = elim (cases_eq k i) [
  | inl same ↦ subst P (sym same) here
  | inr other ↦ all k (omega (arith, below, other))
]

-- what holds at each place up to the end holds of all
pub items_all : {X : Type 0} (P : X → Type 0) (xs : List X) (x : X) (i : ℕ) → length xs ≤ i → ((k : ℕ) → k < i → P (get_or xs k x)) → All P xs
items_all P xs x i long all k d inside = subst P (get_or_default xs k x d inside) (all k (omega (arith, inside, long)))

-- a node has a recipe where its maker has one
pub recipe_is : (jobs : Jobs) (n : ℕ) → has_recipe jobs n ≡ has_commands (maker_of jobs n)
unfolding has_recipe maker_of
recipe_is jobs n = refl

-- what is no node has no prerequisites
no_needs : (jobs : Jobs) (n : ℕ) → node_count jobs ≤ n → prerequisites_of jobs n ≡ []
unfolding node_count prerequisites_of
no_needs jobs n past = rw (slice_get_past jobs.plan.nodes n past, prerequisites_of) refl

-- what has one is a node
pub edge_node : (jobs : Jobs) (p n : ℕ) → IsPrerequisite jobs p n → n < node_count jobs
edge_node jobs p n edge = elim (cases_lt n (node_count jobs)) [
  | inl less ↦ less
  | inr past ↦ absurd (let no = (subst (λ (ns : List ℕ). Contains ns p) (no_needs jobs n past) edge).1 in omega (arith, no))
]

-- two edges are the same
abbrev pub same_edge : ℕ × ℕ → ℕ × ℕ → Bool
same_edge p q = eqb p.0 q.0 && eqb p.1 q.1

-- an edge is there where a search by that test finds it
pub found_edge : (edges : List (ℕ × ℕ)) (edge : ℕ × ℕ) → (has same_edge edges edge ≡ true) ↔ Contains edges edge
found_edge edges edge = (
  λ found. Contains-from_any {eq = λ q y. same_edge y q} (λ x y same. sym (pair_equal y x same)) edge edges found,
  λ there. list_any_at (λ y. same_edge y edge) edges there.0 edge there.1 (subst (λ e. same_edge e edge ≡ true) (sym there.2) (pair_equiv.refl edge)),
)
