use Rattle.std.proofs.Common.{ℕ, List, subst, sym}
use Rattle.mk_fix.specs.Fixes.{IsFix}
use Rattle.mk_fix.proofs.Fixing.{fix_of_free}
use Rattle.mk_fix.proofs.fix.fix.Goals as goal

pub returns-then-free-clause-fix : goal.returns-then-free-clause-fix
returns-then-free-clause-fix c =
    subst (λ (edges : List (ℕ × ℕ)). IsFix c.args.jobs.now edges) (sym c.new.ensures.items) (fix_of_free c.args.jobs.now (c.in_ok-free.ensures.free.0 c.if-free.true))
