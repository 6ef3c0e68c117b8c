use Rattle.std.proofs.Common.{◌<◌, ℕ, sym, ◌∙◌, subst, arith}
use Rattle.mk_sched.proofs.Storing.{found, some_has_time, has_file}
use Rattle.mk_sched.proofs.store.Store.is_before.Goals as goal

pub returns : goal.returns
returns c = rw (sym c.self.view_is) (
  λ yes x file at.
      let some = some_has_time c.self.inside.files.entries x file (sym (found c.self.inside.files.entries x ∙ at)) in
      c.are_before.ensures.0 yes file.time (omega (arith, some, c.self.invariant.counted file.time)),
  λ all. c.are_before.ensures.1 (λ t some.
      let s = has_file c.self.inside.files.entries t c.self.invariant.in_order (omega (arith, some, c.self.invariant.counted t)) in
      subst (λ (n : ℕ). n < c.args.time) s.timed (all s.name s.file s.stands)),
)
