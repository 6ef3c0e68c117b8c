use Rattle.std.proofs.Common.{ℕ, ◌≡◌, ◌<◌, None, get_or, is_some}
use Rattle.mk_jobs.specs.Jobs.{is_listed}
use Rattle.mk_cert.proofs.times.are_of_listed.Given as goal

abbrev pub invariant-loop-n : goal.invariant-loop-n
invariant-loop-n l = (k : ℕ) → k < l.n → is_some (get_or l.table k None) ≡ is_listed l.jobs k
