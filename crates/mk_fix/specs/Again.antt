-- Jobs that were made again, with edges added.
use Rattle.std.specs.Prelude.{ℕ, ◌≡◌, ◌<◌, ◌⊎◌, All, Contains, List, true}
use Rattle.mk_jobs.specs.Jobs.{Jobs, IsPrerequisite, has_recipe, is_phony, maker_of, name_of, node_count, prerequisites_of}

-- a node is as it was, except for prerequisites: its name, whether it is phony, and what makes it where it has a recipe
pub record IsSameNode (jobs new : Jobs) (n : ℕ) : Type 0 where
  pub name : name_of new n ≡ name_of jobs n
  pub phony : is_phony new n ≡ is_phony jobs n
  pub maker : has_recipe jobs n ≡ true → maker_of new n ≡ maker_of jobs n

-- a node keeps its prerequisites; and where it has a recipe, it has no others but by these edges
pub record HasNeeds (jobs : Jobs) (edges : List (ℕ × ℕ)) (new : Jobs) (n : ℕ) : Type 0 where
  pub kept : All (λ p. IsPrerequisite new p n) (prerequisites_of jobs n)
  pub only : has_recipe jobs n ≡ true → All (λ p. IsPrerequisite jobs p n ⊎ Contains edges (p, n)) (prerequisites_of new n)

-- new jobs have all that the jobs have, and these edges: as many nodes, each as it was; their prerequisites, and where they have
-- recipes no others but by the edges; and each of the edges. A node without a recipe may have gained one
pub record HaveAll (jobs : Jobs) (edges : List (ℕ × ℕ)) (new : Jobs) : Type 0 where
  pub count : node_count new ≡ node_count jobs
  pub nodes : (n : ℕ) → n < node_count jobs → IsSameNode jobs new n
  pub needs : (n : ℕ) → n < node_count jobs → HasNeeds jobs edges new n
  pub added : All (λ edge. IsPrerequisite new edge.0 edge.1) edges
