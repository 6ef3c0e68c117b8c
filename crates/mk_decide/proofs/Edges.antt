-- What is before a node is one of its prerequisites, or before one of them.
use Rattle.std.proofs.Common.{ℕ, ◌<◌, get_or, refl, subst, inl, inr, arith, All}
use Rattle.std.proofs.lemmas.List.Elements.{Contains-get_or}
use Rattle.mk_jobs.specs.Jobs.{Jobs, Before, edge, further, IsPrerequisite, IsValid, prerequisites_of}
use Rattle.mk_decide.specs.Paths.{IsFrom}

-- a prerequisite that is a or has a before it
pub record PrerequisiteFrom (jobs : Jobs) (a x : ℕ) : Type 0 where
  pub node : ℕ
  pub edge : IsPrerequisite jobs node x
  pub from : IsFrom jobs a node

pub prerequisite_from : (jobs : Jobs) (a x : ℕ) → Before jobs a x → PrerequisiteFrom jobs a x
prerequisite_from jobs a x (edge step) = record { node = a; edge = step; from = inl refl }
prerequisite_from jobs a x (further {b = b} before step) = record { node = b; edge = step; from = inr before }

pub before_from : (jobs : Jobs) (a p x : ℕ) → IsPrerequisite jobs p x → IsFrom jobs a p → Before jobs a x
before_from jobs a p x step (inl same) = edge (subst (λ n. IsPrerequisite jobs n x) same step)
before_from jobs a p x step (inr before) = further before step

-- the prerequisites of a node are below it
pub all_smaller : (jobs : Jobs) (x : ℕ) → IsValid jobs → All (λ p. p < x) (prerequisites_of jobs x)
all_smaller jobs x valid = λ k d at. valid.smaller x (get_or (prerequisites_of jobs x) k d) (Contains-get_or (prerequisites_of jobs x) k d at)

pub all_below : (jobs : Jobs) (x end : ℕ) → IsValid jobs → x < end → All (λ p. p < end) (prerequisites_of jobs x)
all_below jobs x end valid below = λ k d at. omega (arith, all_smaller jobs x valid k d at, below)
