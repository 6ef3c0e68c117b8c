-- Numbers that are no nodes.
use Rattle.std.proofs.Common.{ℕ, ◌≡◌, ◌≤◌, [], refl}
use Rattle.std.proofs.lemmas.Option.{slice_get_past}
use Rattle.mk_jobs.specs.Jobs.{Jobs, name_of, node_count}

-- what is no node has no name
pub no_name : (jobs : Jobs) (n : ℕ) → node_count jobs ≤ n → name_of jobs n ≡ []
unfolding node_count name_of
no_name jobs n past = rw (slice_get_past jobs.plan.nodes n past, name_of) refl
