-- What a value of jobs keeps inside.
use Rattle.std.specs.Prelude.{ℕ, ◌≡◌, List, length}
use Rattle.mk_index.specs.Index.{Index, IsIndexed}
use Rattle.mk_jobs.specs.Jobs.{Jobs}
use Rattle.mk_jobs.specs.Needs.{AreNeeds}
use Rattle.mk_jobs.specs.Reaching.{uses_of}
use Rattle.mk_jobs.specs.Shape.{IsWellFormed}

-- the jobs are well-formed, the index is that of what they use, and the rows of needs are those of their nodes
pub record IsKept (jobs : Jobs) (index : Index) (needs : List (List ℕ)) : Type 0 where
  pub shape : IsWellFormed jobs
  pub indexed : IsIndexed (uses_of jobs) index
  pub nodes : length index.reads ≡ length jobs.reads
  pub needed : AreNeeds jobs.plan.nodes needs
