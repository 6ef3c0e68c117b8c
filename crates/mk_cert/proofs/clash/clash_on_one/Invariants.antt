use Rattle.std.proofs.Common.{ℕ, ◌<◌, get_or, [], false}
use Rattle.mk_cert.proofs.OnPaths.{IsOn}
use Rattle.mk_cert.proofs.clash.clash_on_one.Given as goal

abbrev pub invariant-loop-p : goal.invariant-loop-p
invariant-loop-p l = (k : ℕ) → k < l.p-index → ¬ (IsOn l.jobs l.a l.b l.text (get_or l.paths k (record { name = []; tree = false })))
